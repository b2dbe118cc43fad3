-- Worked runs of the reach of events: whose facts they change, and how many that are.
use Rattle.std.{specs.Prelude.{Bool, List, [], false, length, map, true, ℕ, ◌*◌, ◌++◌, ◌+◌, ◌∷◌, ◌≡◌}}
use Rattle.pim_types.{specs.{declared.{event.Event.Event, fact.Key.Key}, Keys.source_key}}
use Rattle.pim_model.{specs.{Reach.{event_reach, keeps_neighbours}, State.State, Step.{state_after, step}, Tables.below}}
use Rattle.pim_runs.{specs.{Base.{after, all_groups, base_routes, group, rp_for, source}, Cached.{asked_and_sent, joined_and_sent, two_sent, watched_source, with_longer_route}, Packets.{data_from, hello_for_105_s, hello_of_10_0_2_9, join_source, join_source_of, packet, prune_source, to_exclude}, Words.{address, advance, down, frame, routes_to, rps_to}}}

-- ---- what is looked at

-- how many times the cache may be touched: three times the size of the reach
abbrev pub most_touched : State → Event → ℕ
most_touched s e = 3 * length (event_reach s e)

-- whether the interfaces and the neighbours stay, but for the owed Hello and their ends
abbrev pub stays_around : State → Event → Bool
stays_around s e = keeps_neighbours s (step s e).state

-- 10.0.3.5, 10.0.3.200
abbrev pub its_key : Key
its_key = source_key 0 group source

abbrev pub key_200 : Key
key_200 = source_key 0 group (source + 195)

abbrev pub it_alone : List Key
it_alone = its_key ∷ []

-- ---- events of one group

-- 10.0.0.9 said Hello a second ago
abbrev pub greeted : State
greeted = state_after joined_and_sent (frame 0 hello_for_105_s ∷ advance 1000 ∷ [])

-- What only moves ends reaches nothing: the Join again, the packet again, a Hello again, a report again.
abbrev pub EndsReachNone : Type 0
EndsReachNone =
    (event_reach (state_after joined_and_sent (advance 1000 ∷ [])) (frame 1 join_source) ≡ [])
    × (event_reach (state_after joined_and_sent (advance 1000 ∷ [])) (frame 0 packet) ≡ [])
    × (event_reach greeted (frame 0 hello_for_105_s) ≡ [])
    × (stays_around greeted (frame 0 hello_for_105_s) ≡ true)
    × (event_reach (state_after watched_source (advance 1000 ∷ [])) (frame 2 to_exclude) ≡ [])

-- The first packet of a joined source reaches it, and so does the last Prune.
abbrev pub FirstAndLastReachIt : Type 0
FirstAndLastReachIt =
    (event_reach (after (frame 1 join_source ∷ [])) (frame 0 packet) ≡ it_alone)
    × (event_reach joined_and_sent (frame 1 prune_source) ≡ it_alone)
    × (stays_around joined_and_sent (frame 1 prune_source) ≡ true)

-- 10.0.3.5 to 10.0.3.12 are joined on 1, and send
abbrev pub eight_sent : State
eight_sent = after
    (map (λ n. frame 1 (join_source_of (n + 5))) (below 8) ++ map (λ n. frame 0 (data_from (n + 5))) (below 8))

-- Of eight rows a repeated Join touches none, and a Prune at most three times one.
abbrev pub OneOfEightIsReached : Type 0
OneOfEightIsReached =
    (length eight_sent.sources ≡ 8)
    × (event_reach eight_sent (frame 1 (join_source_of 6)) ≡ [])
    × (most_touched eight_sent (frame 1 (join_source_of 6)) ≡ 0)
    × (event_reach eight_sent (frame 1 prune_source) ≡ it_alone)
    × (most_touched eight_sent (frame 1 prune_source) ≡ 3)

-- ---- time

-- Time reaches a source once for each of its facts that changes: the Join ends, and with it SPTbit, then the keepalive
-- timer. Hellos, queries and the Joins between reach nothing.
abbrev pub TimeReachesOnceAFiring : Type 0
TimeReachesOnceAFiring =
    (event_reach joined_and_sent (advance 209999) ≡ [])
    × (event_reach joined_and_sent (advance 210000) ≡ its_key ∷ its_key ∷ [])
    × (stays_around joined_and_sent (advance 210000) ≡ true)

-- ---- routes, neighbours, interfaces

-- 10.9.9.8 becomes the RP of all groups
abbrev pub other_rp : Event
other_rp = rps_to (rp_for all_groups (address 10 9 9 8) ∷ [])

-- A longer route reaches the sources that it takes over, and the same routes again none.
abbrev pub LongerRouteReachesOneSource : Type 0
LongerRouteReachesOneSource =
    (event_reach two_sent (routes_to with_longer_route) ≡ key_200 ∷ [])
    × (most_touched two_sent (routes_to with_longer_route) ≡ 3)
    × (stays_around two_sent (routes_to with_longer_route) ≡ true)
    × (event_reach two_sent (routes_to base_routes) ≡ [])

-- Another RP reaches all sources of its groups.
abbrev pub OtherRpReachesItsGroups : Type 0
OtherRpReachesItsGroups =
    (event_reach two_sent other_rp ≡ its_key ∷ key_200 ∷ []) × (stays_around two_sent other_rp ≡ true)

-- A better DR and an interface that goes down change neighbours, so nothing is said of what they touch.
abbrev pub NeighboursAreNoReach : Type 0
NeighboursAreNoReach =
    (stays_around asked_and_sent (frame 2 hello_of_10_0_2_9) ≡ false)
    × (stays_around joined_and_sent (down 1) ≡ false)
    × (event_reach joined_and_sent (down 1) ≡ it_alone)
