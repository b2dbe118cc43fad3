use Rattle.std.{proofs.Common.{◌≡◌, drop}}
use Rattle.pim_register.{specs.Settling.registers_by}
use Rattle.pim_register.proofs.settling.changed.Given as goal

abbrev pub invariant-loop-opened : goal.invariant-loop-opened
invariant-loop-opened l =
    registers_by (drop l.opened-index l.opened-items) l.world ≡ registers_by l.opened-items l.fn.world
