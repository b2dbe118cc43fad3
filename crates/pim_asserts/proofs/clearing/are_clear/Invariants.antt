use Rattle.std.{proofs.Common.{◌≡◌, drop}}
use Rattle.pim_model.{specs.Querier.each_in_turn}
use Rattle.pim_views.{specs.After.{AreGathered, openings_in}}
use Rattle.pim_asserts.{specs.Opened.{clear_asserts, clear_bits}}
use Rattle.pim_asserts.proofs.clearing.are_clear.Given as goal

abbrev pub invariant-loop-after : goal.invariant-loop-after
invariant-loop-after l = record {
  asserts : each_in_turn clear_asserts l.world (openings_in (drop l.after-index l.seen))
      ≡ each_in_turn clear_asserts l.world (openings_in l.seen);
  bits : each_in_turn clear_bits l.world (openings_in (drop l.after-index l.seen))
      ≡ each_in_turn clear_bits l.world (openings_in l.seen);
  left : AreGathered l.world (drop l.after-index l.seen);
}
