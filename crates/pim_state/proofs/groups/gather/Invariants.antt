use Rattle.std.{proofs.Common.{◌≡◌, map}}
use Rattle.pim_model.{specs.Tables.keys_in}
use Rattle.pim_types.{specs.Keys.group_in}
use Rattle.pim_state.{specs.Groups.{numbers_of, gathered}}
use Rattle.pim_state.proofs.groups.gather.Given as goal

abbrev pub invariant-loop-key : goal.invariant-loop-key
invariant-loop-key g l =
    gathered (map group_in (keys_in l.key-iterator)) (numbers_of l.found.entries)
    ≡ gathered (map group_in (keys_in l.fn.facts)) (numbers_of l.fn.found.entries)
