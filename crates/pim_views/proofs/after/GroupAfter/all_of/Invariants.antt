use Rattle.std.{proofs.Common.{◌≡◌, ◌++◌, drop}}
use Rattle.pim_views.{specs.After.{AreGathered, openings_in}}
use Rattle.pim_views.proofs.after.GroupAfter.all_of.Given as goal

abbrev pub invariant-loop-group : goal.invariant-loop-group
invariant-loop-group l = record {
  opening : openings_in l.seen.items ++ drop l.group-index l.opened ≡ l.opened;
  after : AreGathered l.world l.seen.items;
}
