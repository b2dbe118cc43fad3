use Rattle.std.{proofs.Common.{◌≡◌, ◌+◌, ◌*◌, ◌-◌, ◌≤◌, length}}
use Rattle.pim_bootstrap.{specs.Advertisements.all_advertised_test}
use Rattle.pim_bootstrap.proofs.advertisement.check_all_advertised.Given as goal

-- the ranges from the index on decide
abbrev pub invariant-loop-index : goal.invariant-loop-index
invariant-loop-index l = record {
  within : l.place + 8 * l.index ≤ length l.bytes;
  tests : all_advertised_test l.bytes (l.place + 8 * l.index) (l.count - l.index) ≡ all_advertised_test l.bytes l.place l.count;
}
