use Rattle.std.{proofs.{Common.{ap, refl, ◌∙◌}, lemmas.List.take_all}}
use Rattle.pim_filters.{specs.Members.is_named_source}
use Rattle.pim_querier.{proofs.NamedSet.one_more_named}
use Rattle.pim_querier.proofs.applying.set_of.Goals as goal

pub loop-source-preserved : goal.loop-source-preserved
loop-source-preserved c = λ n.
    one_more_named n _ c.loop-source.set.keys c.insert.new.self.keys c.in_ok-insert.ensures.updates.0 c.args.sources.now
    c.loop-source.source-index _ c.loop-source-test.true refl (c.loop-source.invariant n)

pub returns : goal.returns
returns c = λ n.
    c.loop-source.invariant n
    ∙ ap (is_named_source n) (take_all c.loop-source.source-index c.args.sources.now c.loop-source-test.false)
