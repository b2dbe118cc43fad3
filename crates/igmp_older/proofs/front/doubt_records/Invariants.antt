use Rattle.std.{proofs.Common.{◌≡◌, map}}
use Rattle.igmp_wire.{specs.Values.Record}
use Rattle.igmp_older.{specs.Presence.doubted}
use Rattle.igmp_older.proofs.front.doubt_records.Given as goal

abbrev pub invariant-loop-record : goal.invariant-loop-record
invariant-loop-record l =
    doubted l.iface.number (map (λ (r : Record). r.group) l.record-iterator) l.presence
    ≡ doubted l.iface.number (map (λ (r : Record). r.group) l.fn.records) l.fn.presence
