use Rattle.std.{proofs.Common.{◌≡◌, ◌+◌, ◌*◌, ◌-◌, ◌≤◌, length}}
use Rattle.pim_wire.{specs.JoinPrunes.sources_test}
use Rattle.pim_wire.proofs.join_prune.check_sources.Given as goal

-- the sources from the index on decide
abbrev pub invariant-loop-index : goal.invariant-loop-index
invariant-loop-index l = record {
  within : l.place + 8 * l.index ≤ length l.bytes;
  tests : sources_test l.bytes (l.place + 8 * l.index) (l.count - l.index) ≡ sources_test l.bytes l.place l.count;
}
