use Rattle.std.{proofs.{Common.{sym, ◌∙◌}, lemmas.List.{drop_all, drop_more}}}
use Rattle.pim_types.{specs.Keys.star_key}
use Rattle.pim_views.{proofs.Named.{next_named, none_named}}
use Rattle.pim_views.proofs.sources.gather_named.Goals as goal

pub loop-key-preserved : goal.loop-key-preserved
loop-key-preserved c =
    next_named c.args.group.bits _ _ _ _ _
    (drop_more c.args.keys.now c.loop-key.key-index (star_key 0 0) c.loop-key-test.true)
    c.in_ok-gather_source.ensures
    ∙ c.loop-key.invariant

pub returns : goal.returns
returns c =
    sym (none_named c.args.group.bits _ _ (drop_all c.loop-key.key-index c.args.keys.now c.loop-key-test.false))
    ∙ c.loop-key.invariant
