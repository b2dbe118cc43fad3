use Rattle.std.{proofs.Common.{◌≡◌, drop}}
use Rattle.law_events.{specs.Locality.touching}
use Rattle.pim_types.{specs.Keys.source_key}
use Rattle.pim_fanout.proofs.disturbed.is_touched.Given as goal

abbrev pub invariant-loop-key : goal.invariant-loop-key
invariant-loop-key l =
    touching l.keys (source_key 0 l.name.group.bits l.name.source.bits)
    ≡ touching (drop l.key-index l.keys) (source_key 0 l.name.group.bits l.name.source.bits)
