-- The reading of an IGMP message (RFC 3376, section 4): tests in their order, then the value.
use Rattle.std.{specs.Prelude.{ℕ, Bool, ◌||◌, ◌==◌, nat_le, not, if◌then◌else◌, List, length, slice_index, Result, Ok}}
use Rattle.pim_ip.{specs.{declared.refusal.Refusal.{Refusal, TheVariants.{Short, BadChecksum, OldVersion, UnknownType}}, Tests.{expect, ◌>>◌}, Checksum.sum16}}
use Rattle.igmp_wire.{specs.{declared.view.IgmpView.{IgmpView, TheVariants.{Query, Report}}, Queries.{query_test, query_of}, Reports.{report_test, report_of}}}

-- the type of a message, its first byte
abbrev pub type_of : List ℕ → ℕ
type_of b = slice_index b 0

-- The type is that of a version 1 report, or of a version 2 report or leave.
abbrev pub is_old_type : ℕ → Bool
is_old_type type = (type == 0x12) || (type == 0x16) || (type == 0x17)

-- the type of a Membership Query (RFC 3376, section 4)
abbrev pub query_type : ℕ
query_type = 0x11

-- the type of a Version 3 Membership Report (RFC 3376, section 4)
abbrev pub report_type : ℕ
report_type = 0x22

-- What an IGMP message says, or the first of its tests that it fails.
unfoldable pub igmp_reading : List ℕ → Result IgmpView Refusal
igmp_reading b =
    expect (nat_le 8 (length b)) Short
    >> expect (sum16 b == 0) BadChecksum
    >> expect (not (is_old_type (type_of b))) OldVersion
    >> expect ((type_of b == query_type) || (type_of b == report_type)) UnknownType
    >> (if type_of b == query_type
    then query_test b >> Ok (Query (query_of b))
    else report_test b >> Ok (Report (report_of b)))
