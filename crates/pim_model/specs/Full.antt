-- The limit on counted facts: an event that needs more new facts than there is room for is refused whole.
use Rattle.std.{specs.Prelude.{Bool, List, [], false, filter, flat_map, fold, if◌then◌else◌, length, map, nat_le, nat_lt, not, ℕ, ◌&&◌, ◌++◌, ◌+◌, ◌==◌, ◌||◌, ◌∷◌}}
use Rattle.pim_types.{specs.{Keys.{source_key, star_key}, declared.fact.Key.Key}}
use Rattle.pim_wire.{specs.{RegisterParts.{registered_group, registered_source}, Values.JoinPrune, declared.assert.Assert.Assert as AssertMessage}}
use Rattle.igmp_wire.{specs.Values.Record}
use Rattle.pim_model.{specs.{AssertMacros.is_infinite, Asserts.theirs_of, Downstream.{is_named, joined_keys, pruned_keys}, Hellos.hello_holdtime_of, Neighbours.{is_neighbour, neighbour_count}, Querier.is_skipped, State.State, Tables.{Table, has_row}, Unicast.is_rp, declared.accepted.Accepted.Accepted}}

-- the facts that count
unfoldable pub counted : State → ℕ
counted s =
    length s.neighbours + length s.group_records + length s.source_records
    + length s.downstream + length s.asserts + length s.sources

-- a list of keys, each once, with a key added unless it is in the list
unfoldable pub once_more : List Key → Key → List Key
once_more found k = if is_named found k then found else found ++ k ∷ []

-- a list of keys, each once
unfoldable pub distinct : List Key → List Key
distinct ks = fold once_more [] ks

-- how many of the named keys have no row yet
unfoldable pub needed : {R : Type 0} → Table R → List Key → ℕ
needed t ks = length (filter (λ k. not (has_row t k)) (distinct ks))

-- so many more facts would pass the limit on counted facts; no more never do
unfoldable pub passes_limit : State → ℕ → Bool
passes_limit s more = not (more == 0) && nat_lt s.settings.limit (counted s + more)

-- the most neighbours of an interface
abbrev pub most_neighbours : ℕ
most_neighbours = 64

-- a Hello is of a new neighbour for which there is no room: on its interface, or by the limit
unfoldable pub hello_is_full : State → ℕ → ℕ → ℕ → Bool
hello_is_full s i address holdtime =
    not (holdtime == 0) && not (is_neighbour s i address)
    && (nat_le most_neighbours (neighbour_count s i) || passes_limit s 1)

-- the keys that a Join/Prune to the router may make: its joins of (*,G) and (S,G), its prunes of (S,G,rpt)
unfoldable pub makeable_keys : List Key → List Key → List Key
makeable_keys joined pruned = filter (λ k. not k.rpt) joined ++ filter (λ k. k.rpt) pruned

-- a Join/Prune to the router with these keys; one with holdtime 0 makes no row
unfoldable pub keys_are_full : State → ℕ → List Key → List Key → Bool
keys_are_full s holdtime joined pruned =
    not (holdtime == 0) && passes_limit s (needed s.downstream (makeable_keys joined pruned))

-- a Join/Prune to the router names more new facts than there is room for; one with holdtime 0 makes no row
unfoldable pub join_prune_is_full : State → ℕ → JoinPrune → Bool
join_prune_is_full s i m = keys_are_full s m.holdtime (joined_keys s i m) (pruned_keys i m)

-- the groups that a report names
unfoldable pub reported_groups : ℕ → List Record → List Key
reported_groups i records = map (λ (r : Record). star_key i r.group) (filter (λ r. not (is_skipped r)) records)

-- the sources that a report names
unfoldable pub reported_sources : ℕ → List Record → List Key
reported_sources i records =
    flat_map (λ (r : Record). map (source_key i r.group) r.sources) (filter (λ r. not (is_skipped r)) records)

-- a report names more new facts than there is room for, by all groups and sources in it
unfoldable pub report_is_full : State → ℕ → List Record → Bool
report_is_full s i records =
    passes_limit s
    (needed s.group_records (reported_groups i records) + needed s.source_records (reported_sources i records))

-- the keys of the asserts that an Assert names
unfoldable pub asserted_keys : ℕ → AssertMessage → List Key
asserted_keys i a =
    (if a.source.bits == 0 then [] else source_key i a.group.bits a.source.bits ∷ [])
    ++ (if a.rpt then star_key i a.group.bits ∷ [] else [])

-- an Assert that isn't infinite names more new facts than there is room for
unfoldable pub assert_is_full : State → ℕ → AssertMessage → Bool
assert_is_full s i a = not (is_infinite (theirs_of a 0)) && passes_limit s (needed s.asserts (asserted_keys i a))

-- a packet of a source, or a Register of one, needs a source row for which there is no room
unfoldable pub source_is_full : State → ℕ → ℕ → Bool
source_is_full s g src = passes_limit s (needed s.sources (source_key 0 g src ∷ []))

-- an accepted event names more new facts than there is room for
unfoldable pub is_full : State → Accepted → Bool
is_full s (Accepted.Hello i from h) = hello_is_full s i.number from.bits (hello_holdtime_of h)
is_full s (Accepted.JoinPruneToMe i m) = join_prune_is_full s i.number m
is_full s (Accepted.Assert i from a) = assert_is_full s i.number a
is_full s (Accepted.Report i records) = report_is_full s i.number records
is_full s (Accepted.Data i p) = source_is_full s p.destination p.source
is_full s (Accepted.Register p r) =
    is_rp s (registered_group r) p.destination && source_is_full s (registered_group r) (registered_source r)
is_full s _ = false
