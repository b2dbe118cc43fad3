use Rattle.std.{proofs.Common.{◌≡◌, drop}}
use Rattle.pim_views.{specs.After.{AreGathered, openings_in}}
use Rattle.pim_register.{specs.Settling.registers_by}
use Rattle.pim_register.proofs.settling.are_settled.Given as goal

abbrev pub invariant-loop-after : goal.invariant-loop-after
invariant-loop-after l = record {
  stays : registers_by (openings_in (drop l.after-index l.seen)) l.world ≡ registers_by (openings_in l.seen) l.world;
  left : AreGathered l.world (drop l.after-index l.seen);
}
