-- The members of a group record: what a contract sees of one, and their order.
use Rattle.std.{specs.{List.{list_any, Sorted.IsStrictlySortedBy}, Ordering.nat_cmp, Prelude.{Bool, List, None, Option, Some, if◌then◌else◌, map, ℕ, ◌==◌}}}
use Rattle.pim_filters.{specs.declared.member.{SourceState.{SourceState, TheVariants.{Absent, Excluded, Included}}, Member.Member}}
use Rattle.pim_ip.{specs.declared.addr.Addr.Addr}
pub use Rattle.igmp_wire.{specs.Written.bits_of}
use Rattle.pim_model.{specs.Querier.lowered}
use Rattle.pim_model.specs.Records as records

abbrev pub member_entry : Member → records.Member
member_entry m = (m.source.bits, m.end)

abbrev pub member_entries : List Member → List records.Member
member_entries ms = map member_entry ms

abbrev pub source_state_of : SourceState → records.SourceState
source_state_of Absent = records.Absent
source_state_of Excluded = records.Excluded
source_state_of (Included end) = records.Included end

-- What becomes of a member, by when its timer expires, if it has one.
abbrev pub source_state_at : Option ℕ → SourceState
source_state_at None = Excluded
source_state_at (Some end) = Included end

-- the sources ascend, and each is there once
abbrev pub IsAscending : List records.Member → Type 0
IsAscending ms = IsStrictlySortedBy nat_cmp (map (λ (m : records.Member). m.0) ms)

abbrev pub is_named_source : ℕ → List Addr → Bool
is_named_source src addresses = list_any (λ (a : Addr). a.bits == src) addresses

-- the member, excluded where it is of this source
abbrev pub without_end : ℕ → Member → Member
without_end src m = if m.source.bits == src then record m { end = None } else m

-- The member, with its timer lowered to a timestamp if its source is named.
abbrev pub with_end_lowered : List Addr → ℕ → Member → Member
with_end_lowered sources end m = if is_named_source m.source.bits sources then record m { end = lowered end m.end } else m
