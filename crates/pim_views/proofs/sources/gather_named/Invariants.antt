use Rattle.std.{proofs.Common.{◌≡◌, drop}}
use Rattle.pim_state.{specs.{Groups.{gathered, numbers_of}, Sources.sources_among}}
use Rattle.pim_views.proofs.sources.gather_named.Given as goal

abbrev pub invariant-loop-key : goal.invariant-loop-key
invariant-loop-key l =
    gathered (sources_among l.group.bits (drop l.key-index l.keys)) (numbers_of l.found.entries)
    ≡ gathered (sources_among l.group.bits l.keys) (numbers_of l.fn.found.entries)
