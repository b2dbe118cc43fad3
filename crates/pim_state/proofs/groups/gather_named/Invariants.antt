use Rattle.std.{proofs.Common.{◌≡◌, drop, map}}
use Rattle.pim_types.{specs.Keys.group_in}
use Rattle.pim_state.{specs.Groups.{gathered, numbers_of}}
use Rattle.pim_state.proofs.groups.gather_named.Given as goal

abbrev pub invariant-loop-key : goal.invariant-loop-key
invariant-loop-key l =
    gathered (map group_in (drop l.key-index l.keys)) (numbers_of l.found.entries)
    ≡ gathered (map group_in l.fn.keys) (numbers_of l.fn.found.entries)
