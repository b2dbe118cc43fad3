-- The numbers and values that the router returns to a program.
use Rattle.std.{specs.Prelude.{Bool, Err, List, None, Ok, Option, Some, drop, false, length, take, true, unwrap_or, Result, if◌then◌else◌, ℕ, ◌++◌, ◌^◌, ◌-◌, ◌==◌}}
use Rattle.pim_ip.{specs.{Refusal.refusal_number, declared.{fault.Fault.Fault, refusal.Refusal.Refusal, addr.Addr.Addr}}}
use Rattle.pim_types.{specs.declared.{outcome.{Emission.Emission, Ignored.Ignored, Verdict.Verdict}, config.IfaceId.IfaceId, fact.Key.Key}}
use Rattle.pim_rows.{specs.declared.table.Table.Table}
use Rattle.igmp_older.{specs.declared.{mode.{Mode.Mode, OlderRow.OlderRow}, setting.{OlderHosts.OlderHosts, QueryVersion.QueryVersion}}}
use Rattle.pim_anycast.{specs.declared.set.BadRpSet.BadRpSet}
use Rattle.pim_session.{specs.declared.{refused.ReloadRefusal.ReloadRefusal, stop.Stop.Stop}}
use Rattle.pim_c.{specs.declared.returned.{NamedSource.NamedSource, OlderGroup.OlderGroup, Packet.Packet}}

-- The number that stands for a timestamp that doesn't exist.
abbrev pub never : ℕ
never = 2 ^ 64 - 1

-- The number that stands for no interface.
abbrev pub no_interface_number : ℕ
no_interface_number = 2 ^ 32 - 1

abbrev pub ignored_number : Ignored → ℕ
ignored_number Ignored.Own = 101
ignored_number Ignored.NotForMe = 102
ignored_number Ignored.OtherType = 103
ignored_number Ignored.Mask = 104
ignored_number Ignored.LinkLocal = 105
ignored_number Ignored.NoNeighbour = 106
ignored_number Ignored.NotRp = 107
ignored_number Ignored.Already = 108

abbrev pub verdict_number : Verdict → ℕ
verdict_number Verdict.Done = 0
verdict_number (Verdict.Ignored reason) = ignored_number reason

abbrev pub answer_number : Result Verdict Refusal → ℕ
answer_number (Ok verdict) = verdict_number verdict
answer_number (Err refusal) = refusal_number refusal

-- The number of a fault after which the router has failed.
abbrev pub failure_number : Fault → ℕ
failure_number Fault.Memory = 43
failure_number Fault.Failed = 41
failure_number Fault.Wire = 42

-- The number of why an event wasn't taken.
abbrev pub stop_number : Stop → ℕ
stop_number Stop.Untaken = 55
stop_number Stop.Guarded = 109
stop_number (Stop.Fault fault) = failure_number fault

-- The number that says whether a keepalive timer runs.
abbrev pub kept_number : Bool → ℕ
kept_number true = 0
kept_number false = 52

-- The number of an answer to a setting of an interface.
abbrev pub set_number : Result (Unit {0}) Refusal → ℕ
set_number (Ok _) = 0
set_number (Err refusal) = refusal_number refusal

-- The number of why a reload isn't done.
abbrev pub reload_number : ReloadRefusal → ℕ
reload_number (ReloadRefusal.Configuration refusal) = refusal_number refusal
reload_number ReloadRefusal.SetsDontFit = 74

-- The number of an answer to sets of RPs.
abbrev pub rp_sets_number : Result (Unit {0}) BadRpSet → ℕ
rp_sets_number (Ok _) = 0
rp_sets_number (Err bad) = 74

abbrev pub older_hosts_of : ℕ → Option OlderHosts
older_hosts_of number =
    if number == 0 then Some OlderHosts.Nobody
    else (if number == 1 then Some OlderHosts.VersionTwo
    else (if number == 2 then Some OlderHosts.All else None))

abbrev pub query_version_of : ℕ → Option QueryVersion
query_version_of number =
    if number == 2 then Some QueryVersion.Two
    else (if number == 3 then Some QueryVersion.Three else None)

-- what a number says of the guard: 0 off, 1 on
abbrev pub guard_of : ℕ → Option Bool
guard_of number = if number == 0 then Some false else (if number == 1 then Some true else None)

abbrev pub mode_number : Mode → ℕ
mode_number Mode.One = 1
mode_number Mode.Two = 2
mode_number Mode.Three = 3

abbrev pub older_group_of : OlderRow → OlderGroup
older_group_of r = record {
  iface = r.iface.number;
  group = r.group.bits;
  mode = mode_number r.mode;
  one_end = unwrap_or r.one_end never;
  two_end = unwrap_or r.two_end never;
}

abbrev pub bytes_in : Emission → List ℕ
bytes_in (Emission.Link iface bytes) = bytes
bytes_in (Emission.Unicast destination bytes) = bytes

-- The kind of a packet on an interface: a copy of data (2) or not (1).
abbrev pub link_kind : Bool → ℕ
link_kind true = 2
link_kind false = 1

abbrev pub c_packet : Emission → Bool → Packet
c_packet (Emission.Link iface bytes) is_copy =
    record { kind = link_kind is_copy; iface = iface.number; destination = 0; length = length bytes }
c_packet (Emission.Unicast destination bytes) is_copy =
    record { kind = 3; iface = 0; destination = destination.bits; length = length bytes }

-- Bytes written into a buffer from its start, as many as fit.
abbrev pub written_into : List ℕ → List ℕ → List ℕ
written_into room bytes = take (length room) bytes ++ drop (length bytes) room

abbrev pub source_or_zero : Option Addr → ℕ
source_or_zero None = 0
source_or_zero (Some address) = address.bits

abbrev pub name_of : Key → NamedSource
name_of k = record { source = source_or_zero k.source; group = k.group.bits }

abbrev pub iface_number : Option IfaceId → ℕ
iface_number None = no_interface_number
iface_number (Some iface) = iface.number

abbrev pub table_of_letter : ℕ → Option Table
table_of_letter letter =
    if letter == 78 then Some Table.Neighbours
    else (if letter == 71 then Some Table.Groups
    else (if letter == 83 then Some Table.Sources
    else (if letter == 68 then Some Table.Downstream
    else (if letter == 65 then Some Table.Asserts
    else (if letter == 85 then Some Table.Upstream
    else (if letter == 82 then Some Table.Trees
    else (if letter == 70 then Some Table.Active else None)))))))
