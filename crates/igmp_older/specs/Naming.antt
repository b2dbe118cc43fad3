-- The groups that a message of IGMPv3 names, whose group timers it may change.
use Rattle.std.{specs.Prelude.{ℕ, ◌==◌, if◌then◌else◌, List, [], ◌∷◌, map, Result, Ok, Err}}
use Rattle.pim_ip.{specs.{Ipv4.{Packet, ipv4_reading, protocol_igmp}, declared.refusal.Refusal.Refusal}}
use Rattle.igmp_wire.{specs.{Messages.igmp_reading, Values.Record, declared.view.IgmpView.IgmpView}}

-- the groups that a message names: those of a report's records, and that of a query
abbrev pub groups_read : Result IgmpView Refusal → List ℕ
groups_read (Ok (IgmpView.Report records)) = map (λ (r : Record). r.group) records
groups_read (Ok (IgmpView.Query q)) = q.group ∷ []
groups_read (Err refusal) = []

-- the groups that a packet names; none where it isn't of IGMP
unfoldable pub groups_of_packet : Packet → List ℕ
groups_of_packet p = if p.protocol == protocol_igmp then groups_read (igmp_reading p.payload) else []

-- the groups that a read packet names
abbrev pub groups_of_reading : Result Packet Refusal → List ℕ
groups_of_reading (Ok p) = groups_of_packet p
groups_of_reading (Err refusal) = []

-- the groups that a packet names
unfoldable pub groups_named : List ℕ → List ℕ
groups_named bytes = groups_of_reading (ipv4_reading bytes)
