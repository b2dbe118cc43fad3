-- Worked readings and writings of messages.
use Rattle.std.{specs.Prelude.{Err, List, None, Ok, Some, map, ℕ, [], ◌≡◌, ◌∷◌, ◌++◌}}
use Rattle.pim_ip.{specs.{declared.refusal.Refusal.Refusal, Ipv4.Packet}}
use Rattle.pim_wire.{specs.{Messages.pim_reading, Values.Encapsulated, declared.view.PimView.PimView}}
use Rattle.igmp_wire.{specs.{Codes.{code_value, value_code}, Messages.igmp_reading, Reports.report_text, declared.report.RecordType.RecordType}}
use Rattle.pim_runs.{specs.{Base.{group, host}, Words.hex}}

-- A Hello with Holdtime alone says nothing else.
abbrev pub HelloWithHoldtimeAlone : Type 0
HelloWithHoldtimeAlone =
    pim_reading (hex "20 00 df 93 00 01 00 02 00 69")
    ≡ Ok (PimView.Hello (record { holdtime = Some 105; lan_delay = None; priority = None; generation = None }))

-- a packet from 10.0.2.5 to G, and what it says
abbrev pub inner_packet : List ℕ
inner_packet = hex "45 00 00 1c 00 00 00 00 40 11 8c ca 0a 00 02 05 e1 01 01 01" ++ hex "00 01 00 02 00 03 00 04"

abbrev pub inner_read : Packet
inner_read = record {
  protocol = 17;
  time_to_live = 64;
  source = host;
  destination = group;
  header = hex "45 00 00 1c 00 00 00 00 40 11 8c ca 0a 00 02 05 e1 01 01 01";
  payload = hex "00 01 00 02 00 03 00 04";
}

-- A Register's checksum may cover its first 8 bytes, or all of it; no other is right.
abbrev pub ChecksumsOfARegister : Type 0
ChecksumsOfARegister =
    (pim_reading (hex "21 00 de ff 00 00 00 00" ++ inner_packet) ≡ Ok (PimView.Register (Encapsulated inner_read)))
    × (pim_reading (hex "21 00 de f5 00 00 00 00" ++ inner_packet)
    ≡ Ok (PimView.Register (Encapsulated inner_read)))
    × (pim_reading (hex "21 00 de f6 00 00 00 00" ++ inner_packet) ≡ Err Refusal.BadChecksum)

-- The codes of intervals, from the least that isn't the number itself on.
abbrev pub CodesOfIntervals : Type 0
CodesOfIntervals =
    (map code_value (0x7F ∷ 0x80 ∷ 0xFF ∷ []) ≡ 127 ∷ 128 ∷ 31744 ∷ [])
    × (map value_code (0 ∷ 130 ∷ 136 ∷ 31743 ∷ 31744 ∷ 40000 ∷ []) ≡ 0x00 ∷ 0x80 ∷ 0x81 ∷ 0xFE ∷ 0xFF ∷ 0xFF ∷ [])

-- A report whose second record is a byte short.
abbrev pub ReportThatIsCutShort : Type 0
ReportThatIsCutShort =
    igmp_reading (hex "22 00 11 f9 00 00 00 02 04 00 00 00 e1 01 01 01 04 00 00 00 e1 01 01") ≡ Err Refusal.Short

-- A report of one record TO_EX({}), as it is written.
abbrev pub ReportAsWritten : Type 0
ReportAsWritten =
    report_text (record { type = RecordType.ToExclude; group = group; sources = [] } ∷ [])
    ≡ hex "22 00 f7 fb 00 00 00 01 04 00 00 00 e1 01 01 01"

-- A Join(*,G) with one place changed: two groups where there is one, two joins where there is one, another
-- version, another address family, a group that isn't multicast, and another version with the checksum left
-- as it was.
abbrev pub ChangedJoinIsRefused : Type 0
ChangedJoinIsRefused =
    (pim_reading (hex "23 00 d1 d4 01 00 0a 00 01 01 00 02 00 d2 01 00 00 20 e1 01 01 01 00 01 00 00 01 00 07 20 0a 09 09 09")
    ≡ Err Refusal.Short)
    × (pim_reading (hex "23 00 d1 d4 01 00 0a 00 01 01 00 01 00 d2 01 00 00 20 e1 01 01 01 00 02 00 00 01 00 07 20 0a 09 09 09")
    ≡ Err Refusal.Short)
    × (pim_reading (hex "13 00 e1 d5 01 00 0a 00 01 01 00 01 00 d2 01 00 00 20 e1 01 01 01 00 01 00 00 01 00 07 20 0a 09 09 09")
    ≡ Err Refusal.BadVersion)
    × (pim_reading (hex "23 00 d0 d5 02 00 0a 00 01 01 00 01 00 d2 01 00 00 20 e1 01 01 01 00 01 00 00 01 00 07 20 0a 09 09 09")
    ≡ Err Refusal.BadAddress)
    × (pim_reading (hex "23 00 d3 d5 01 00 0a 00 01 01 00 01 00 d2 01 00 00 20 df 01 01 01 00 01 00 00 01 00 07 20 0a 09 09 09")
    ≡ Err Refusal.NotMulticast)
    × (pim_reading (hex "13 00 d1 d5 01 00 0a 00 01 01 00 01 00 d2 01 00 00 20 e1 01 01 01 00 01 00 00 01 00 07 20 0a 09 09 09")
    ≡ Err Refusal.BadVersion)
