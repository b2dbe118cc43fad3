use Rattle.std.{proofs.Common.◌≡◌}
use Rattle.pim_model.{specs.Upstream.groups_of}
use Rattle.pim_store.{specs.PimTables.stored_keys}
use Rattle.pim_state.{specs.Groups.{gathered, numbers_of}}
use Rattle.pim_state.proofs.groups.gather_stored.Given as goal

abbrev pub invariant-loop-group : goal.invariant-loop-group
invariant-loop-group l =
    gathered l.group-iterator (numbers_of l.found.entries)
    ≡ gathered (groups_of (stored_keys l.store)) (numbers_of l.fn.found.entries)
