use Rattle.std.{proofs.Common.{◌≡◌, ◌-◌, ◌≤◌, length}}
use Rattle.pim_wire.{specs.JoinPrunes.groups_test}
use Rattle.pim_wire.proofs.join_prune.check_groups.Given as goal

-- the groups from the place on decide
abbrev pub invariant-groups : goal.invariant-groups
invariant-groups l = record {
  within : l.place ≤ length l.bytes;
  tests : groups_test l.bytes l.place (l.count - l.counter) ≡ groups_test l.bytes l.first l.count;
}
