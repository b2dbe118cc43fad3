-- A host of IGMPv1 that is saved and resumed, computed by the kernel. Worked by hand from RFC 3376, section 7.3.2.
use Rattle.std.specs.Prelude.{◌≡◌, [], ◌∷◌, Some, None}
use Rattle.pim_types.{specs.{Keys.star_key, declared.fact.GroupRecordRow.GroupRecordRow}}
use Rattle.pim_model.{specs.Tables.Table}
use Rattle.igmp_older.{specs.{Presence.{mode_at, put_rows}, declared.mode.{Mode.Mode, PresentRow.PresentRow}}}
use Rattle.igmp_older_saved.{specs.{declared.host.HostRow.HostRow, Hosts.{resumed_rows, saved_hosts}, Text.hosts_text}}

-- at 1,000 ms 239.1.1.1 has a record on interface 3, in EXCLUDE mode
abbrev groups : Table GroupRecordRow
groups = (star_key 3 0xEF01_0101, record { end = Some 260000 }) ∷ []

-- a host of version 1 is known there, and one of version 2 whose timer has expired; and one of 239.2.2.2, which has no
-- record any more
abbrev rows : Table PresentRow
rows =
    (star_key 3 0xEF01_0101, record { one_end = 260000; two_end = 900; look = 500 })
    ∷ (star_key 3 0xEF02_0202, record { one_end = 0; two_end = 5000; look = 0 }) ∷ []

abbrev saved : Table HostRow
saved = (star_key 3 0xEF01_0101, record { one_end = Some 260000; two_end = None }) ∷ []

abbrev resumed : Table PresentRow
resumed = (star_key 3 0xEF01_0101, record { one_end = 260000; two_end = 0; look = 0 }) ∷ []

-- the host of version 1 alone is saved, and known again: until 260,000 ms its group is in mode IGMPv1
abbrev pub SavedHostIsKnown : Type 0
SavedHostIsKnown =
    (saved_hosts groups 1000 rows ≡ saved) × (put_rows (resumed_rows saved) ≡ resumed)
    × (mode_at resumed 1000 3 0xEF01_0101 ≡ Mode.One) × (mode_at resumed 260000 3 0xEF01_0101 ≡ Mode.Three)

-- "VIQF", one row, its key (interface 3, 239.1.1.1, no source, not of the shared tree alone), and its expiries
abbrev pub SavedHostHasBytes : Type 0
SavedHostHasBytes =
    hosts_text saved
    ≡ 0x56 ∷ 0x49 ∷ 0x51 ∷ 0x46 ∷ 0 ∷ 0 ∷ 0 ∷ 0 ∷ 0 ∷ 0 ∷ 0 ∷ 1
    ∷ 0 ∷ 0 ∷ 0 ∷ 3 ∷ 0xEF ∷ 1 ∷ 1 ∷ 1 ∷ 0 ∷ 0
    ∷ 1 ∷ 0 ∷ 0 ∷ 0 ∷ 0 ∷ 0 ∷ 3 ∷ 0xF7 ∷ 0xA0 ∷ 0 ∷ []
