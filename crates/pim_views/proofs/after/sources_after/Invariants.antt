use Rattle.std.{proofs.Common.{◌≡◌, ◌++◌, drop, map}}
use Rattle.pim_views.{specs.After.{AreAfter, opened_in}}
use Rattle.pim_views.proofs.after.sources_after.Given as goal

abbrev pub invariant-loop-opened : goal.invariant-loop-opened
invariant-loop-opened l = record {
  opened : map opened_in l.after.items ++ drop l.opened-index l.sources ≡ l.sources;
  after : AreAfter l.world l.star l.after.items;
}
