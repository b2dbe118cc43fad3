use Rattle.std.{proofs.Common.{ap, sym, ◌∙◌}}
use Rattle.pim_state.{specs.Groups.numbers_of, proofs.{GatheredSources.{no_source, one_source, other_group}, Gathering.numbers_inserted}}
use Rattle.pim_state.proofs.sources.gather_source.Goals as goal

pub returns-then-not-is_of_group : goal.returns-then-not-is_of_group
returns-then-not-is_of_group c =
    sym (other_group c.args.group.bits c.args.key _ (sym c.is_of_group.ensures ∙ c.if-not-is_of_group.true))

pub returns-in_ok-insert-in-Some : goal.returns-in_ok-insert-in-Some
returns-in_ok-insert-in-Some c =
    ap (λ es. numbers_of es) c.in_ok-insert-in-Some.ensures.entries
    ∙ numbers_inserted c.in-Some.source _ c.args.found.now.entries
    ∙ sym (one_source c.args.group.bits c.args.key c.in-Some.source _ (sym c.is_of_group.ensures
    ∙ c.if-not-is_of_group.false) c.in-Some.is)

pub returns-in-None : goal.returns-in-None
returns-in-None c = sym (no_source c.args.group.bits c.args.key _ c.in-None.is)
