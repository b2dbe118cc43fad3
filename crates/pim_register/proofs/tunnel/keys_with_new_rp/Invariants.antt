use Rattle.std.{proofs.Common.filter}
use Rattle.pim_model.{specs.Tables.keys_in}
use Rattle.law_settled.{proofs.FoundRows.Keeps}
use Rattle.pim_register.{specs.Tunnel.is_rp_changed}
use Rattle.pim_register.proofs.tunnel.keys_with_new_rp.Given as goal

abbrev pub invariant-loop-key : goal.invariant-loop-key
invariant-loop-key l =
    Keeps (λ e. is_rp_changed l.world l.next.ranges e.0)
    (keys_in (filter (λ e. is_rp_changed l.world l.next.ranges e.0) l.fn.world.registers)) l.keys.items l.key-iterator
