-- A reload by a map of places: an interface of the other configuration takes the facts of the old interface whose link it
-- has, and the old interfaces that the map leaves out go down. Sections are those of RFC 7761.
use Rattle.std.{specs.{List.{cons_option, list_all, range_with_len}, Option.{option_map_or}, Prelude.{Bool, List, None, Option, Some, [], false, filter, if◌then◌else◌, is_some, length, map, nat_lt, not, slice_get, true, ℕ, ◌&&◌, ◌++◌, ◌+◌, ◌-◌, ◌==◌, ◌∷◌}}}
use Rattle.pim_types.{specs.{Keys.iface_in, declared.{config.{Config.Config, InterfaceConfig.InterfaceConfig, Route.Route}, fact.Key.Key, outcome.{Emission.Emission, Outcome.Outcome}}}}
use Rattle.pim_model.{specs.{Firing.settled, State.{addressing_of, State, settings_of}, Step.ran, Tables.{Table, below, drop_where, is_among, put}, Unicast.with_ranges}}
use Rattle.law_states.{specs.{Reload.config_of, Reloading.{down_event, goodbyes, replaced, sent_by}}}

-- ---- numbers in lists

-- where a number stands in a list first, counted from a number on; where it doesn't, the number itself
abbrev pub index_from : ℕ → ℕ → List ℕ → ℕ
index_from i n [] = n
index_from i n (m ∷ ms) =
    let later : ℕ = index_from (i + 1) n ms in
    if m == n then i else later

-- where a number stands in a list first; where it doesn't, the number itself
unfoldable pub index_of : List ℕ → ℕ → ℕ
index_of ns n = index_from 0 n ns

-- the number that stands in a list at an index; past its end, the index itself
unfoldable pub number_at : List ℕ → ℕ → ℕ
number_at ns i = option_map_or (λ n. n) (slice_get ns i) i

-- no number is listed twice
abbrev pub are_once : List ℕ → Bool
are_once [] = true
are_once (n ∷ ns) = not (is_among n ns) && are_once ns

-- ---- maps of places

-- A map of places says of each old place, by its number, at which place of the other configuration its link's interface
-- stands, or that there is none.
abbrev pub Places : Type 0
Places = List (Option ℕ)

-- the interface of an old place has a place in the other configuration
unfoldable pub is_kept : Places → ℕ → Bool
is_kept m i = option_map_or (λ o. is_some o) (slice_get m i) false

-- it has none
unfoldable pub is_left_out : Places → ℕ → Bool
is_left_out m i = not (is_kept m i)

-- the new places to which old ones go, in the order of the old ones
abbrev pub kept_places : Places → List ℕ
kept_places [] = []
kept_places (None ∷ m) = kept_places m
kept_places (Some j ∷ m) = j ∷ kept_places m

-- a new place to which no old one goes
unfoldable pub is_new : List ℕ → ℕ → Bool
is_new kept j = not (is_among j kept)

-- The map has a line for each old place, and names each new place at most once.
unfoldable pub are_places : ℕ → ℕ → Places → Bool
are_places old new m =
    (length m == old) && (list_all (λ j. nat_lt j new) (kept_places m) && are_once (kept_places m))

-- each of so many old places stays at its number, where the other configuration has so many
abbrev pub each_to_itself : ℕ → ℕ → Places
each_to_itself old new = map (λ i. if nat_lt i new then Some i else None) (below old)

-- ---- an order between

-- here: facts first go to an order in which the interfaces that stay are the first ones: the old places that stay, then
-- those that go
unfoldable pub old_order : Places → List ℕ
old_order m =
    filter (is_kept m) (below (length m)) ++ filter (is_left_out m) (below (length m))

-- the new places in that order: those of interfaces that stay, then the others
unfoldable pub new_order : Places → ℕ → List ℕ
new_order m new = kept_places m ++ filter (is_new (kept_places m)) (below new)

-- the place in that order of each old place
unfoldable pub to_order : Places → List ℕ
to_order m = map (index_of (old_order m)) (below (length m))

-- the interfaces at these places, in their order
abbrev pub interfaces_at : List InterfaceConfig → List ℕ → List InterfaceConfig
interfaces_at configured [] = []
interfaces_at configured (i ∷ order) = cons_option (slice_get configured i) (interfaces_at configured order)

-- a route whose interface has its index in this order
abbrev pub route_in_order : List ℕ → Route → Route
route_in_order order r = record r { iface = record { number = index_of order r.iface.number } }

-- A configuration with its interfaces in the order of these places.
unfoldable pub in_order : List ℕ → Config → Config
in_order order c = record c {
  interfaces = interfaces_at c.interfaces order;
  routes = map (route_in_order order) c.routes;
}

-- ---- facts at other places

-- the key of a fact whose interface goes to another place
abbrev pub placed_key : List ℕ → Key → Key
placed_key places k = record k { iface = record { number = number_at places (iface_in k) } }

module _ {R : Type 0} (places : List ℕ) where
  -- a table with these rows put into it, each at its interface's place
  abbrev pub put_placed : Table R → Table R → Table R
  put_placed t [] = t
  put_placed t (e ∷ rows) = put_placed (put t (placed_key places e.0) e.1) rows

  -- the rows of a table, each at its interface's place
  abbrev pub placed : Table R → Table R
  placed rows = put_placed [] rows

-- All facts of interfaces at the places of these, under the configuration whose interfaces stand there. Facts of the whole
-- router stay as they are.
unfoldable pub placed_under : State → List ℕ → Config → State
placed_under s places c = record s {
  settings = settings_of c;
  configured = addressing_of c;
  routes = c.routes;
  ranges = with_ranges s.ranges c.rps;
  interfaces = placed places s.interfaces;
  neighbours = placed places s.neighbours;
  queriers = placed places s.queriers;
  group_records = placed places s.group_records;
  source_records = placed places s.source_records;
  group_repeats = placed places s.group_repeats;
  source_repeats = placed places s.source_repeats;
  sendings = placed places s.sendings;
  downstream = placed places s.downstream;
  asserts = placed places s.asserts;
}

-- ---- neighbours

-- an interface has the same address and the same subnet by both
abbrev pub keeps_subnet : Option InterfaceConfig → Option InterfaceConfig → Bool
keeps_subnet (Some a) (Some b) = (a.address.bits == b.address.bits) && (a.length == b.length)
keeps_subnet _ _ = false

-- The interface at a place has another address, or a subnet of another length, by the second list.
unfoldable pub is_resubnetted : List InterfaceConfig → List InterfaceConfig → ℕ → Bool
is_resubnetted old new i = not (keeps_subnet (slice_get old i) (slice_get new i))

-- those of the first places
unfoldable pub resubnetted : ℕ → List InterfaceConfig → List InterfaceConfig → List ℕ
resubnetted count old new = filter (is_resubnetted old new) (below count)

-- without the neighbours of these places
unfoldable pub without_neighbours : List ℕ → State → State
without_neighbours places s = record s { neighbours = drop_where (λ k. is_among (iface_in k) places) s.neighbours }

-- ---- a whole reload

-- Facts go to other places, and the neighbours of some of these go. What follows is done as after any event.
unfoldable pub moved : State → List ℕ → Config → List ℕ → ℕ → State × List Emission
moved s places c apart w =
    let t : State = placed_under s places c in
    settled t (without_neighbours apart t, []) w

-- an emission on a link, by another numbering of the interfaces
abbrev pub leaving_on : (ℕ → ℕ) → Emission → Emission
leaving_on number (Emission.Link i bytes) = Emission.Link (record { number = number i.number }) bytes
leaving_on number (Emission.Unicast destination bytes) = Emission.Unicast destination bytes

-- The old interfaces from a number on go down, up to the last. Then another configuration takes the place of the old one, as
-- in any reload.
unfoldable pub gone_on : State → ℕ → ℕ → Config → ℕ → State × List Emission
gone_on s kept count c w =
    let gone : List Outcome × State = ran s (map (down_event w) (range_with_len kept (count - kept))) in
    let after : State × List Emission = replaced gone.1 c w in
    (after.0, sent_by gone.0 ++ (goodbyes gone.1 (addressing_of c) ++ after.1))

-- The state after a reload by a map of places, and what leaves by it, each packet on the old interface of its link. The facts
-- go to the order between, where neighbours of links with another subnet go. The old interfaces that the map leaves out go
-- down, and the new configuration, in that order, takes the place of the old one. Then the facts go to their places.
unfoldable pub reload_by : State → Places → Config → ℕ → State × List Emission
reload_by s m c w =
    let kept : ℕ = length (kept_places m) in
    let order : List ℕ = new_order m (length c.interfaces) in
    let old : Config = in_order (old_order m) (config_of s) in
    let new : Config = in_order order c in
    let first : State × List Emission = moved s (to_order m) old (resubnetted kept old.interfaces new.interfaces) w in
    let next : State × List Emission = gone_on first.0 kept (length m) new w in
    let last : State × List Emission = moved next.0 order c [] w in
    let sent : List Emission = (first.1 ++ next.1) ++ map (leaving_on (index_of order)) last.1 in
    (last.0, map (leaving_on (number_at (old_order m))) sent)
