use Rattle.std.{proofs.Common.{ap, sym, ◌∙◌}}
use Rattle.pim_state.{specs.Groups.numbers_of, proofs.{GatheredSources.{next_number, no_number}, Gathering.numbers_inserted}}
use Rattle.pim_state.proofs.sources.gather_all.Goals as goal

pub loop-source-preserved : goal.loop-source-preserved
loop-source-preserved c =
    next_number c.loop-source.source-iterator c.next.new.self c.in-Some.source.bits _ _ c.in-Some.ensures.steps
    (ap (λ es. numbers_of es) c.in_ok-insert.ensures.entries
    ∙ numbers_inserted c.in-Some.source _ c.loop-source.found.entries)
    ∙ c.loop-source.invariant

pub returns : goal.returns
returns c = sym (no_number c.loop-source.source-iterator _ c.in-None.ensures.steps.0) ∙ c.loop-source.invariant
