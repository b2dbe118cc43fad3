-- A change of neighbours. It moves only what has another upstream neighbour after it, and what asks whether the router is
-- the DR of an interface where it became that, or is no more: all that follows of it follows of the keys that touch that,
-- of which there are facts.
use Rattle.std.{specs.{List.{flat_map, list_all, list_any}, Option.option_map_or, Prelude.{Bool, List, None, Option, Some, [], false, filter, if◌then◌else◌, is_some, map, not, true, ℕ, ◌&&◌, ◌++◌, ◌==◌, ◌||◌, ◌≡◌, ◌∷◌}}}
use Rattle.pim_types.{specs.{declared.{config.Route.Route, fact.{AssertRow.AssertRow, Key.Key, NeighbourRow.NeighbourRow}, path.Path.Path, timer.TimerKind.TimerKind}, Keys.{group_in, iface_in, is_on, is_star, names_source, source_in, source_key, star_key}}}
use Rattle.pim_wire.{specs.declared.hello.Hello.Hello as HelloValue}
use Rattle.pim_model.{specs.{Cache.answers, Clearing.clear, Firing.settled, Hellos.{hello_holdtime_of, hello_received, is_lost_to, neighbour_due, neighbour_replaced}, Messages.Message, Neighbours.{is_dr, is_neighbour, nbr}, Reach.own_firing, Receivers.{is_exclude, local_receiver_include}, Registers.is_dr_of_path, Sets.is_winner, State.State, Tables.{Table, keys_in, same_bool, same_hop}, Timers.Ending, Unicast.{any_rp, route, rp_route}, Upstream.{fact_keys, groups_of, sources_of}}}
use Rattle.law_events.{specs.{Locality.{AgreesBut, IsQuiet, own_settled, touched_clear, touched_registers, touching}, Named.is_source_named}}

-- ---- any change of neighbours

-- A state with other neighbours.
abbrev pub with_neighbour_rows : State → Table NeighbourRow → State
with_neighbour_rows s rows = record s { neighbours = rows }

-- the next hop of a path is a neighbour in both states, or in neither
abbrev pub has_same_hop : State → State → Option Path → Bool
has_same_hop o c path = same_hop (nbr o path) (nbr c path)

-- the keys touch the machines of (*,G) where another neighbour leads to RP(G), and those of a source where another
-- leads to it
abbrev pub is_touched_where_hop_differs : List Key → State → State → Key → Bool
is_touched_where_hop_differs keys o c k =
    (has_same_hop o c (rp_route o (group_in k)) || touching keys (star_key 0 (group_in k)))
    && (is_star k || has_same_hop o c (route o (source_in k))
    || touching keys (source_key 0 (group_in k) (source_in k)))

-- The keys touch each lost assert whose winner is a neighbour in only one of the states.
abbrev pub keeps_winner : List Key → State → State → Key × AssertRow → Bool
keeps_winner keys o c e =
    touching keys e.0 || is_winner (Some e.1)
    || same_bool (is_neighbour o (iface_in e.0) (e.1).winner.address.bits)
    (is_neighbour c (iface_in e.0) (e.1).winner.address.bits)

-- the router is the DR of the link of a source that this path leads to
abbrev pub has_link_dr : State → Option Path → Bool
has_link_dr s path = option_map_or (is_dr_of_path s) path false

-- The keys touch each (*,G) with a receiver where the router is the DR in only one of the states, and each source with
-- one.
pub record ServesAlike (keys : List Key) (o c : State) : Type 0 where
  pub stars : (g i : ℕ) → touching keys (star_key 0 g) ≡ false
      → (is_dr o i && is_exclude o g i) ≡ (is_dr c i && is_exclude o g i)
  pub sources : (g src i : ℕ) → touching keys (source_key 0 g src) ≡ false
      → (is_dr o i && local_receiver_include o g src i) ≡ (is_dr c i && local_receiver_include o g src i)

-- The keys touch a source where the router is the DR of its link in only one of the states.
abbrev pub is_touched_where_link_differs : List Key → State → State → Key → Bool
is_touched_where_link_differs keys o c k =
    is_star k || touching keys (source_key 0 (group_in k) (source_in k))
    || same_bool (has_link_dr o (route o (source_in k))) (has_link_dr c (route o (source_in k)))

-- All sources with a fact of their own or a register are under keys of sources.
abbrev pub AreSourced : State → Type 0
AreSourced s = list_all (λ k. not (is_star k)) (keys_in s.sources ++ keys_in s.registers) ≡ true

-- a change of neighbours, and keys that touch all else that it changes, and all that it moves of which there are facts
pub record AdjoinsAlone (keys : List Key) (o c : State) : Type 0 where
  pub agrees : AgreesBut (touching keys) o (with_neighbour_rows c o.neighbours)
  pub serves : ServesAlike keys o c
  pub linked : list_all (is_touched_where_link_differs keys o c) (fact_keys o) ≡ true
  pub sourced : AreSourced c
  pub winners : list_all (keeps_winner keys o c) o.asserts ≡ true
  pub taken : list_all (is_touched_where_hop_differs keys o c) (fact_keys o) ≡ true
  pub facts : (p : Key → Bool) → list_any p (fact_keys c) ≡ true → list_any p (fact_keys o) ≡ true

-- From a quiet state the facts that go, and the registers that are settled, are of the touched keys.
abbrev pub AdjoinsGoes : Type 0
AdjoinsGoes = (keys : List Key) (o c : State) → IsQuiet o → AdjoinsAlone keys o c
    → clear o c ≡ touched_clear (touching keys) o (touched_registers (touching keys) c)

-- From a quiet state all that follows of a change of neighbours follows of the touched keys.
abbrev pub AdjoinsSettles : Type 0
AdjoinsSettles = (keys : List Key) (o c : State) → IsQuiet o → AdjoinsAlone keys o c → (messages : List Message) (w : ℕ)
    → settled o (c, messages) w ≡ own_settled keys o (c, messages) w

-- A source with a fact that isn't touched isn't named.
abbrev pub AdjoinsNames : Type 0
AdjoinsNames = (keys : List Key) (o c : State) → IsQuiet o → AdjoinsAlone keys o c → (g src : ℕ)
    → list_any (names_source g src) (fact_keys o) ≡ true → touching keys (source_key 0 g src) ≡ false
    → is_source_named g src o (clear o c).0 ≡ false

-- Where the router is the DR of the same interfaces, a source that isn't touched, with a fact or without, has in the end
-- the answers that it has with the earlier neighbours, with which it isn't named.
abbrev pub AdjoinsStays : Type 0
AdjoinsStays = (keys : List Key) (o c : State) → IsQuiet o → AdjoinsAlone keys o c
    → ((i : ℕ) → is_dr o i ≡ is_dr c i) → (messages : List Message) (w g src : ℕ) → touching keys (source_key 0 g src) ≡ false
    → (let end : State = (settled o (c, messages) w).0 in
    (is_source_named g src o (with_neighbour_rows end o.neighbours) ≡ false)
    × (answers (with_neighbour_rows end o.neighbours) g src ≡ answers end g src))

-- ---- a change of one neighbour

-- a path leads to the neighbour with the address on the interface: it is the path's next hop
abbrev pub leads_to : ℕ → ℕ → Option Path → Bool
leads_to i address None = false
leads_to i address (Some p) = (p.iface.number == i) && (p.next_hop.bits == address)

-- The sources of a group with any fact whose path leads to the neighbour.
unfoldable pub led_sources : State → ℕ → ℕ → ℕ → List ℕ
led_sources s i address g = filter (λ src. leads_to i address (route s src)) (sources_of g (fact_keys s))

-- What leads to the neighbour in a group: the whole group where the path to its RP does, else those sources whose path
-- does.
unfoldable pub led_of_group : State → ℕ → ℕ → ℕ → List Key
led_of_group s i address g =
    if leads_to i address (rp_route s g) then star_key 0 g ∷ [] else map (source_key 0 g) (led_sources s i address g)

-- What leads to the neighbour, of each group with any fact.
unfoldable pub led_keys : State → ℕ → ℕ → List Key
led_keys s i address = flat_map (led_of_group s i address) (groups_of (fact_keys s))

-- The keys of the asserts that the router lost to the neighbour.
abbrev pub lost_keys : State → ℕ → ℕ → List Key
lost_keys s i address = keys_in (filter (is_lost_to i address) s.asserts)

-- a path may lead to the address: a route has it as its next hop, or a range or a candidate as its RP, or a fact as its
-- source
unfoldable pub may_lead : State → ℕ → Bool
may_lead s address =
    list_any (λ (r : Route). r.next_hop.bits == address) s.routes
    || any_rp (λ rp. rp == address) s.ranges
    || list_any (λ k. is_some k.source && (source_in k == address)) (fact_keys s)

-- No path leads to an address for which `may_lead` is false.
abbrev pub LeadsNowhere : Type 0
LeadsNowhere = (s : State) (i address : ℕ) → may_lead s address ≡ false → led_keys s i address ≡ []

-- All keys of what depends on the neighbour.
unfoldable pub keys_towards : State → ℕ → ℕ → List Key
keys_towards s i address = led_keys s i address ++ lost_keys s i address

-- ---- the DR of an interface

-- the path leads to a source on the interface's own link
abbrev pub is_linked : ℕ → Option Path → Bool
is_linked i path = option_map_or (λ (p : Path). p.is_connected && (i == p.iface.number)) path false

-- The groups with a receiver of all their sources on the interface, and the sources with a receiver there.
unfoldable pub receiver_stars : State → ℕ → List Key
receiver_stars s i =
    map (λ e. star_key 0 (group_in e.0)) (filter (λ e. is_on i e.0 && is_some (e.1).end) s.group_records)

-- The sources with a receiver on the interface.
unfoldable pub receiver_sources : State → ℕ → List Key
receiver_sources s i =
    map (λ e. source_key 0 (group_in e.0) (source_in e.0)) (filter (λ e. is_on i e.0) s.source_records)

-- The sources of a group with any fact that are on the interface's link, and those of all groups.
unfoldable pub linked_of_group : State → ℕ → ℕ → List Key
linked_of_group s i g =
    map (source_key 0 g) (filter (λ src. is_linked i (route s src)) (sources_of g (fact_keys s)))

-- The sources with a fact that are on the interface's link.
unfoldable pub linked_sources : State → ℕ → List Key
linked_sources s i = flat_map (linked_of_group s i) (groups_of (fact_keys s))

-- All keys of what asks whether the router is the DR of the interface.
unfoldable pub keys_of_dr : State → ℕ → List Key
keys_of_dr s i = receiver_stars s i ++ receiver_sources s i ++ linked_sources s i

-- What a change of the DR of an interface touches: nothing where the router is its DR before and after, or neither.
abbrev pub dr_keys : Bool → State → ℕ → List Key
dr_keys kept s i = if kept then [] else keys_of_dr s i

-- ---- a Hello

-- The Hello doesn't change whether the router is the DR of its interface.
unfoldable pub hello_keeps_dr : State → ℕ → ℕ → HelloValue → Bool
hello_keeps_dr s i address h = same_bool (is_dr s i) (is_dr (neighbour_replaced s i address h) i)

-- The Hello's neighbour was known, and still is after it.
abbrev pub is_still_neighbour : State → ℕ → ℕ → HelloValue → Bool
is_still_neighbour s i address h = is_neighbour s i address && not (hello_holdtime_of h == 0)

-- What a Hello touches: what depends on a neighbour that comes or goes; for one that stays the asserts that were lost
-- to it, which go where it restarted; and what asks whether the router is the DR of the interface, where that changes.
unfoldable pub keys_of_neighbour : State → ℕ → ℕ → HelloValue → List Key
keys_of_neighbour s i address h =
    if is_still_neighbour s i address h then lost_keys s i address else keys_towards s i address

-- What a Hello of a neighbour touches: what depends on the neighbour, and what asks who the DR is, if that changes.
unfoldable pub keys_of_hello : State → ℕ → ℕ → HelloValue → List Key
keys_of_hello s i address h = keys_of_neighbour s i address h ++ dr_keys (hello_keeps_dr s i address h) s i

abbrev pub HelloAdjoins : Type 0
HelloAdjoins = (s : State) (i address w : ℕ) (h : HelloValue) → AreSourced s
    → AdjoinsAlone (keys_of_hello s i address h) s (hello_received s i address h w)

-- ---- a neighbour's end

-- After a neighbour's expiry the router is the DR of its interface as before, or isn't as before.
unfoldable pub end_keeps_dr : State → Key → Bool
end_keeps_dr s k = same_bool (is_dr s (iface_in k)) (is_dr (neighbour_due s k) (iface_in k))

-- What the expiry of a neighbour touches: what has it as next hop, and what asks who the DR is, if that changes.
unfoldable pub keys_of_end : State → Key → List Key
keys_of_end s k = keys_towards s (iface_in k) (source_in k) ++ dr_keys (end_keeps_dr s k) s (iface_in k)

abbrev pub EndAdjoins : Type 0
EndAdjoins = (s : State) (e : Ending) → e.timer.kind ≡ TimerKind.Neighbour → AreSourced s
    → AdjoinsAlone (keys_of_end s e.timer.key) s (own_firing s e)
