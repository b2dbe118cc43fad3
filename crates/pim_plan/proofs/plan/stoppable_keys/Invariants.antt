use Rattle.std.{proofs.Common.{◌≡◌, ◌++◌, filter}}
use Rattle.pim_model.{specs.Tables.keys_in}
use Rattle.pim_plan.{specs.Tunnels.{is_stoppable, stoppable_keys}}
use Rattle.pim_plan.proofs.plan.stoppable_keys.Given as goal

abbrev pub invariant-loop-key : goal.invariant-loop-key
invariant-loop-key l =
    l.keys.items ++ keys_in (filter (λ e. is_stoppable (e.1).state) l.key-iterator)
    ≡ stoppable_keys l.world l.fn.group.bits
