-- What new routes or new RP ranges move: (*,G) where RP(G) or the route to it differs, and a source of a group where
-- the route to the source differs. All that follows of them follows of what they move that has facts.
use Rattle.std.{specs.{List.{flat_map, list_all, list_any}, Prelude.{Bool, List, [], false, filter, if◌then◌else◌, is_some, map, not, true, ℕ, ◌&&◌, ◌==◌, ◌||◌, ◌≡◌, ◌∷◌}}}
use Rattle.pim_types.{specs.{declared.{config.{Route.Route, RpTable.RpTable}, fact.Key.Key}, Keys.{group_in, is_star, names_source, source_in, source_key, star_key}}}
use Rattle.pim_model.{specs.{Clearing.clear, declared.accepted.Accepted.Accepted, Firing.settled, Messages.Message, Rows.{same_both, same_path}, State.State, Step.change, Tables.{Table, keys_in, rows_where, same_option}, Unicast.{route, rp_of}, Upstream.{fact_keys, groups_of, sources_of}}}
use Rattle.law_events.{specs.{Locality.{IsQuiet, own_settled, touched_clear, touched_registers, touching}, Named.{has_same_routes, has_same_rp, is_source_named, is_rerouted}}}

-- ---- the change

-- A key of the group and the source; of the group where there is no source.
abbrev pub is_of_place : ℕ → ℕ → Key → Bool
is_of_place g src k = (group_in k == g) && (source_in k == src)

-- which interfaces are up, the queriers, the routes and the RP ranges are new, and the registers of what they move are
-- others
pub record IsRerouted (o c : State) : Type 0 where
  pub only : c ≡ record o {
    interfaces = c.interfaces;
    queriers = c.queriers;
    routes = c.routes;
    ranges = c.ranges;
    registers = c.registers;
  }
  pub keys : keys_in c.registers ≡ keys_in o.registers
  pub registers : (g src : ℕ) → has_same_routes g src o c ≡ true
      → rows_where (is_of_place g src) o.registers ≡ rows_where (is_of_place g src) c.registers

-- besides, the interfaces that are up, and the queriers, are the same
abbrev pub IsReroutedAlone : State → State → Type 0
IsReroutedAlone o c = IsRerouted o c × (c.interfaces ≡ o.interfaces) × (c.queriers ≡ o.queriers)

abbrev pub RoutesReroute : Type 0
RoutesReroute = (s : State) (w : ℕ) (routes : List Route) → IsReroutedAlone s (change s w (Accepted.Routes routes)).state

abbrev pub RpsReroute : Type 0
RpsReroute = (s : State) (w : ℕ) (ranges : RpTable) → IsReroutedAlone s (change s w (Accepted.Rps ranges)).state

-- ---- what is moved

-- The machines of the key are moved.
abbrev pub is_moved : State → State → Key → Bool
is_moved o c k = if is_star k then not (has_same_rp (group_in k) o c) else is_rerouted o c k

-- the sources of a group with any fact, each of which has another route
unfoldable pub rerouted_sources : State → State → ℕ → List ℕ
rerouted_sources o c g =
    filter (λ src. not (same_both same_path (route o src) (route c src))) (sources_of g (fact_keys o))

-- What new routes move of a group: all of a group with any fact whose RP has another route, else those sources that
-- have another route.
unfoldable pub moved_of_group : State → State → ℕ → List Key
moved_of_group o c g = if has_same_rp g o c then map (source_key 0 g) (rerouted_sources o c g) else star_key 0 g ∷ []

-- What new routes move: groups with a fact whose RP has another route, and sources with a fact that have one.
unfoldable pub keys_by_routes : State → State → List Key
keys_by_routes o c = flat_map (moved_of_group o c) (groups_of (fact_keys o))

-- What new RP ranges move: the groups with any fact that have another RP.
unfoldable pub keys_by_rps : State → State → List Key
keys_by_rps o c =
    map (star_key 0) (filter (λ g. not (same_option (rp_of o g) (rp_of c g))) (groups_of (fact_keys o)))

-- the keys touch the machines of (*,G), and those of the source, where they are moved
abbrev pub is_touched_where_rerouted : List Key → State → State → Key → Bool
is_touched_where_rerouted keys o c k =
    (has_same_rp (group_in k) o c || touching keys (star_key 0 (group_in k)))
    && (is_star k || has_same_routes (group_in k) (source_in k) o c
    || touching keys (source_key 0 (group_in k) (source_in k)))

-- a change of routes, of RP ranges, or of which interfaces are up, and keys that touch all that it moves of which there are
-- facts
pub record MovesAlone (keys : List Key) (o c : State) : Type 0 where
  pub rerouted : IsRerouted o c
  pub taken : list_all (is_touched_where_rerouted keys o c) (fact_keys o) ≡ true

abbrev pub RoutesMove : Type 0
RoutesMove = (s : State) (w : ℕ) (routes : List Route)
    → (let c : State = (change s w (Accepted.Routes routes)).state in MovesAlone (keys_by_routes s c) s c)

abbrev pub RpsMove : Type 0
RpsMove = (s : State) (w : ℕ) (ranges : RpTable)
    → (let c : State = (change s w (Accepted.Rps ranges)).state in MovesAlone (keys_by_rps s c) s c)

-- ---- what follows

-- each row of a table is of a source
abbrev pub HaveSources : {R : Type 0} → Table R → Type 0
HaveSources t = list_all (λ e. is_some (e.0).source) t ≡ true

-- From a quiet state the facts that go, and the registers that are settled, are of the touched keys.
abbrev pub MovedGoes : Type 0
MovedGoes = (keys : List Key) (o c : State) → IsQuiet o → MovesAlone keys o c → HaveSources c.sources
    → HaveSources c.registers → clear o c ≡ touched_clear (touching keys) o (touched_registers (touching keys) c)

-- From a quiet state all that follows of a change of routes or RP ranges follows of the touched keys.
abbrev pub MovedSettles : Type 0
MovedSettles = (keys : List Key) (o c : State) → IsQuiet o → MovesAlone keys o c → HaveSources c.sources
    → HaveSources c.registers → (messages : List Message) (w : ℕ)
    → settled o (c, messages) w ≡ own_settled keys o (c, messages) w

-- a source with a fact that isn't touched isn't named
abbrev pub MovedNames : Type 0
MovedNames = (keys : List Key) (o c : State) → IsQuiet o → MovesAlone keys o c → (g src : ℕ)
    → list_any (names_source g src) (fact_keys o) ≡ true → touching keys (source_key 0 g src) ≡ false
    → is_source_named g src o (clear o c).0 ≡ false
