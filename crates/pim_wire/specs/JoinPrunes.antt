-- Join/Prune (RFC 7761, section 4.9.5): type 3.
use Rattle.std.{specs.Prelude.{ℕ, zero, suc, ◌+◌, ◌*◌, ◌/◌, ◌%◌, true, false, ◌&&◌, ◌==◌, if◌then◌else◌, List, [], ◌∷◌, ◌++◌, length, slice_index, flat_map, Option, Some, None, Result, Ok}}
use Rattle.byteorder.{specs.Endian.{big_from, big_bytes}}
use Rattle.pim_ip.{specs.{declared.refusal.Refusal.Refusal, Tests.◌>>◌, Ipv4.is_unicast, Addr.addr}}
use Rattle.pim_wire.{specs.{declared.join_prune.{Entry.Entry, EntryKind.{EntryKind, TheVariants.{Star, Source, SourceRpt}}}, Values.{Group, JoinPrune}, Encoded.{field_test, unicast_test, group_test, source_test, flags_at, mask_length_at, address_at, unicast_at, unicast_text, group_text, source_text, pim_text}}}

-- The tests of n sources from place p on.
unfoldable pub sources_test : List ℕ → ℕ → ℕ → Result (Unit {0}) Refusal
sources_test b p zero = Ok tt
sources_test b p (suc n) =
    let later : Result (Unit {0}) Refusal = sources_test b (p + 8) n in
    source_test b p >> later

-- The kind of an entry, by its W and R bits; W without R is no kind.
unfoldable pub kind_of : ℕ → Option EntryKind
kind_of flags =
    if (flags / 2) % 2 == 1
    then (if flags % 2 == 1 then Some Star else None)
    else Some (if flags % 2 == 1 then SourceRpt else Source)

abbrev pub entry_of : ℕ → Option EntryKind → List Entry
entry_of address None = []
entry_of address (Some kind) = record { kind = kind; address = addr address } ∷ []

-- The entry at place p, unless it is skipped.
unfoldable pub entry_at : List ℕ → ℕ → List Entry
entry_at b p =
    if (mask_length_at b p == 32) && is_unicast (address_at b p)
    then entry_of (address_at b p) (kind_of (flags_at b p))
    else []

-- The n entries from place p on, without those that are skipped.
unfoldable pub entries_at : List ℕ → ℕ → ℕ → List Entry
entries_at b p zero = []
entries_at b p (suc n) = entry_at b p ++ entries_at b (p + 8) n

-- A group at place p: its address, the numbers of joins and of prunes, the joins, the prunes.
abbrev pub join_count_at : List ℕ → ℕ → ℕ
join_count_at b p = big_from (p + 8) 2 b

-- The number of pruned sources of the group at a place.
abbrev pub prune_count_at : List ℕ → ℕ → ℕ
prune_count_at b p = big_from (p + 10) 2 b

-- The place after the group at place p.
abbrev pub after_group : List ℕ → ℕ → ℕ
after_group b p = p + 12 + 8 * (join_count_at b p + prune_count_at b p)

-- The tests of n groups from place p on.
unfoldable pub groups_test : List ℕ → ℕ → ℕ → Result (Unit {0}) Refusal
groups_test b p zero = Ok tt
groups_test b p (suc n) =
    let later : Result (Unit {0}) Refusal = groups_test b (after_group b p) n in
    group_test b p
    >> field_test b (p + 8) 4
    >> sources_test b (p + 12) (join_count_at b p + prune_count_at b p)
    >> later

-- The group at place p, unless it is skipped.
unfoldable pub group_at : List ℕ → ℕ → List Group
group_at b p =
    elim (mask_length_at b p == 32) [
      | true ↦ record {
        group = address_at b p;
        joins = entries_at b (p + 12) (join_count_at b p);
        prunes = entries_at b (p + 12 + 8 * join_count_at b p) (prune_count_at b p);
      } ∷ []
      | false ↦ []
    ]

-- The n groups from place p on, without those that are skipped.
unfoldable pub groups_at : List ℕ → ℕ → ℕ → List Group
groups_at b p zero = []
groups_at b p (suc n) = group_at b p ++ groups_at b (after_group b p) n

-- The number of groups of a Join/Prune.
abbrev pub group_count_of : List ℕ → ℕ
group_count_of b = slice_index b 11

-- The tests of a Join/Prune: upstream neighbour, a reserved byte, the number of groups, the holdtime, the groups.
unfoldable pub join_prune_test : List ℕ → Result (Unit {0}) Refusal
join_prune_test b = unicast_test b 4 >> field_test b 10 4 >> groups_test b 14 (group_count_of b)

-- The content of a Join/Prune that passes its tests.
unfoldable pub join_prune_of : List ℕ → JoinPrune
join_prune_of b = record {
  upstream = unicast_at b 4;
  holdtime = big_from 12 2 b;
  groups = groups_at b 14 (group_count_of b);
}

-- The flags of an entry as it is written: S set, W and R by the kind.
abbrev pub flags_of : EntryKind → ℕ
flags_of Star = 7
flags_of Source = 4
flags_of SourceRpt = 5

-- The bytes of an entry: an Encoded-Source address with the flags of its kind.
abbrev pub entry_text : Entry → List ℕ
entry_text e = source_text (flags_of e.kind) e.address.bits

-- The holdtime that is written, in seconds.
abbrev pub join_prune_holdtime : ℕ
join_prune_holdtime = 210

-- The bytes of the Join/Prune for one group with these joins and prunes.
unfoldable pub join_prune_text : ℕ → ℕ → List Entry → List Entry → List ℕ
join_prune_text upstream group joins prunes =
    pim_text 3
    (unicast_text upstream ++ 0 ∷ 1 ∷ big_bytes 2 join_prune_holdtime
    ++ group_text group ++ big_bytes 2 (length joins) ++ big_bytes 2 (length prunes)
    ++ flat_map entry_text joins ++ flat_map entry_text prunes)
