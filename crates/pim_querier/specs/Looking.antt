-- What is remembered of groups while the records of a report are taken.
use Rattle.std.{specs.{List.{AllByRecursion, list_any}, Prelude.{Bool, List, map, true, ℕ, ◌&&◌, ◌++◌, ◌==◌, ◌≡◌}}}
use Rattle.pim_filters.{specs.Members.is_named_source}
use Rattle.pim_ip.{specs.declared.addr.Addr.Addr}
use Rattle.pim_types.{specs.{declared.fact.{Key.Key, SourceRecordRow.SourceRecordRow}, Keys.{group_in, iface_in, same_key, source_key}}}
use Rattle.pim_model.{specs.{Querier.exceeds, Tables.Table}}

-- the keys of these sources of a group
abbrev pub source_keys : ℕ → ℕ → List ℕ → List Key
source_keys i g sources = map (source_key i g) sources

-- The row is of a source of one of the groups on the interface, and its timer expires after the timestamp.
abbrev pub is_late_among : ℕ → List Addr → ℕ → Key × SourceRecordRow → Bool
is_late_among i groups end e = (iface_in e.0 == i) && is_named_source (group_in e.0) groups && exceeds end (e.1).end

-- All such rows are listed by their keys.
abbrev pub ListsLate : ℕ → ℕ → List Addr → List Key → Table SourceRecordRow → Type 0
ListsLate i end groups late rows =
    AllByRecursion (λ e. is_late_among i groups end e ≡ true → list_any (same_key e.0) late ≡ true) rows

-- Whatever lists the rows before lists those after, with the keys of the named sources of the group.
abbrev pub GrowsLate : ℕ → ℕ → List ℕ → Table SourceRecordRow → Table SourceRecordRow → Type 0
GrowsLate i g named before after =
    (end : ℕ) (groups : List Addr) (late : List Key) → ListsLate i end groups late before
    → ListsLate i end groups (late ++ source_keys i g named) after
