use Rattle.std.{proofs.Common.{◌≡◌, ◌++◌, drop, filter, map}}
use Rattle.pim_model.{specs.State.State}
use Rattle.pim_fanout.{specs.{Before.{AreBefore, key_before}, Named.{is_changed, keys_of}}}
use Rattle.pim_fanout.proofs.naming.outdated_among_groups.Given as goal

abbrev pub invariant-loop-source : goal.invariant-loop-source
invariant-loop-source l =
    (o : State) → AreBefore o l.sources
    → keys_of l.names.items ++ filter (is_changed o l.world) (map key_before (drop l.source-index l.sources))
    ≡ filter (is_changed o l.world) (map key_before l.sources)
