-- Moves go by the names of the routers alone.
use Rattle.std.{proofs.Common.{inl, inr, ◌≡◌, ℕ, Bool, List, [], ◌∷◌, map, codes, Option, Some, None, sym, ap, refl, ◌∙◌}, specs.{List.{AllZip, position}, Prelude.{string_bytes, option_and_then}, Str.bytes_eq}}
use Rattle.toml.{specs.Data.{Data, Members, as_table}}
use Rattle.pim_types.{specs.declared.{config.{Route.Route, RpCandidate.RpCandidate, RpRange.RpRange}, event.EventKind.EventKind}}
use Rattle.pim_scenario.{specs.{declared.scenario.{ConfigText.ConfigText, ScenarioMove.{ScenarioMove, TheVariants.{Event, Deliver, Carry, Reload, Restart}}, RouterText.RouterText, Scenario.Scenario}, Fields.{text_at, table_at, list_at, list_or_empty}, Scenario.{AreCandidateWords, AreRouteWords, AreRouters, AreRpWords, IsCandidates, IsCarry, IsConfigText, IsDeliver, IsEvent, IsKind, IsMove, IsReload, IsRestart, IsRouter, IsRoutes, IsRps, IsScenario, IsTable, IsText, WritesPlace, place_of}}, proofs.{LinkLemmas.position-map, ReadLemmas.{the_same, zip_weaker}}}

pub kind_of : (routers : List RouterText) (ms : Members) (m : ScenarioMove) → IsEvent routers ms m → (k : EventKind) × IsKind ms k
kind_of routers ms (Event router e) is = (e.kind, is.2)
kind_of routers ms m is = absurd is

-- the list of a move that replaces routes, RP ranges, or candidates
pub routes_of : (ms : Members) (ds : List Data) → Some ds ≡ list_at (codes "list") ms → (kind : EventKind)
    → IsRoutes ms kind → (routes : List Route) × AllZip (IsText AreRouteWords) ds routes
routes_of ms ds at (EventKind.Routes routes) is =
    (routes, rw (the_same (list_at (codes "list") ms) ds is.1.0 at is.1.1) is.1.2)
routes_of ms ds at kind is = absurd is

pub rps_of : (ms : Members) (ds : List Data) → Some ds ≡ list_at (codes "list") ms → (kind : EventKind)
    → IsRps ms kind → (rps : List RpRange) × AllZip (IsText AreRpWords) ds rps
rps_of ms ds at (EventKind.Rps rps) is =
    (rps, rw (the_same (list_at (codes "list") ms) ds is.1.0 at is.1.1) is.1.2)
rps_of ms ds at kind is = absurd is

pub candidates_of : (ms : Members) (ds : List Data) → Some ds ≡ list_at (codes "list") ms → (kind : EventKind)
    → IsCandidates ms kind → (candidates : List RpCandidate) × AllZip (IsText AreCandidateWords) ds candidates
candidates_of ms ds at (EventKind.RpCandidates candidates) is =
    (candidates, rw (the_same (list_at (codes "list") ms) ds is.1.0 at is.1.1) is.1.2)
candidates_of ms ds at kind is = absurd is

-- the configuration of a reload
pub config_of : (routers : List RouterText) (ms inner : Members) → Some inner ≡ table_at (codes "config") ms
    → (m : ScenarioMove) → IsReload routers ms m → (c : ConfigText) × IsConfigText inner c
config_of routers ms inner at (Reload router draw next places) is =
    (next, rw (the_same (table_at (codes "config") ms) inner is.3.0 at is.3.1) is.3.2)
config_of routers ms inner at m is = absurd is

-- its map of places
pub places_of : (routers : List RouterText) (ms : Members) (ds : List Data) → Some ds ≡ list_or_empty (codes "places") ms
    → (m : ScenarioMove) → IsReload routers ms m → (places : List (Option ℕ)) × AllZip WritesPlace ds places
places_of routers ms ds at (Reload router draw next places) is =
    (places, rw (the_same (list_or_empty (codes "places") ms) ds is.4.0 at is.4.1) is.4.2)
places_of routers ms ds at m is = absurd is

-- a table names one router
pub one_name : (d : Data) (r s : RouterText) → IsTable IsRouter d r → IsTable IsRouter d s
    → string_bytes r.name ≡ string_bytes s.name
one_name d r s a b =
    let tables : a.0 ≡ b.0 = the_same (as_table d) a.0 b.0 (sym a.1) b.1 in
    let left : text_at (codes "name") b.0 ≡ Some (string_bytes r.name) = rw (← tables) a.2.name in
    the_same (text_at (codes "name") b.0) (string_bytes r.name) (string_bytes s.name) (sym left) b.2.name

names_same : (ds : List Data) (rs ss : List RouterText) → AllZip (IsTable IsRouter) ds rs → AllZip (IsTable IsRouter) ds ss
    → map (λ (r : RouterText). string_bytes r.name) rs ≡ map (λ (r : RouterText). string_bytes r.name) ss
names_same [] [] [] a b = refl
names_same [] [] (s ∷ ss) a b = absurd b
names_same [] (r ∷ rs) ss a b = absurd a
names_same (d ∷ ds) [] ss a b = absurd a
names_same (d ∷ ds) (r ∷ rs) [] a b = absurd b
names_same (d ∷ ds) (r ∷ rs) (s ∷ ss) a b =
    let one : string_bytes r.name ≡ string_bytes s.name = one_name d r s a.0 b.0 in
    let more = names_same ds rs ss a.1 b.1 in
    rw (one, more) refl

places_same : (rs ss : List RouterText)
    → map (λ (r : RouterText). string_bytes r.name) rs ≡ map (λ (r : RouterText). string_bytes r.name) ss
    → (name : List ℕ) → place_of rs name ≡ place_of ss name
places_same rs ss same name =
    let named : List ℕ → Bool = λ n. bytes_eq n name in
    position-map named (λ (r : RouterText). string_bytes r.name) rs ∙ ap (position named) same
    ∙ sym (position-map named (λ (r : RouterText). string_bytes r.name) ss)

placed : (rs ss : List RouterText) → ((name : List ℕ) → place_of rs name ≡ place_of ss name)
    → (o : Option (List ℕ)) → option_and_then (place_of rs) o ≡ option_and_then (place_of ss) o
placed rs ss same None = refl
placed rs ss same (Some name) = same name

moved_event : (rs ss : List RouterText) → ((name : List ℕ) → place_of rs name ≡ place_of ss name)
    → (ms : Members) (m : ScenarioMove) → IsEvent ss ms m → IsEvent rs ms m
moved_event rs ss same ms (Event router e) is = (placed rs ss same (text_at (codes "router") ms) ∙ is.0, is.1, is.2)
moved_event rs ss same ms m is = absurd is

moved_deliver : (rs ss : List RouterText) → ((name : List ℕ) → place_of rs name ≡ place_of ss name)
    → (ms : Members) (m : ScenarioMove) → IsDeliver ss ms m → IsDeliver rs ms m
moved_deliver rs ss same ms (Deliver router iface frame draw) is =
    (is.0, placed rs ss same (text_at (codes "router") ms) ∙ is.1, is.2, is.3, is.4)
moved_deliver rs ss same ms m is = absurd is

moved_carry : (rs ss : List RouterText) → ((name : List ℕ) → place_of rs name ≡ place_of ss name)
    → (ms : Members) (m : ScenarioMove) → IsCarry ss ms m → IsCarry rs ms m
moved_carry rs ss same ms (Carry router frame draw) is =
    (is.0, placed rs ss same (text_at (codes "router") ms) ∙ is.1, is.2, is.3)
moved_carry rs ss same ms m is = absurd is

moved_restart : (rs ss : List RouterText) → ((name : List ℕ) → place_of rs name ≡ place_of ss name)
    → (ms : Members) (m : ScenarioMove) → IsRestart ss ms m → IsRestart rs ms m
moved_restart rs ss same ms (Restart router) is = (is.0, placed rs ss same (text_at (codes "router") ms) ∙ is.1)
moved_restart rs ss same ms m is = absurd is

moved_reload : (rs ss : List RouterText) → ((name : List ℕ) → place_of rs name ≡ place_of ss name)
    → (ms : Members) (m : ScenarioMove) → IsReload ss ms m → IsReload rs ms m
moved_reload rs ss same ms (Reload router draw next places) is =
    (is.0, placed rs ss same (text_at (codes "router") ms) ∙ is.1, is.2, is.3, is.4)
moved_reload rs ss same ms m is = absurd is

moved : (rs ss : List RouterText) → ((name : List ℕ) → place_of rs name ≡ place_of ss name)
    → (ms : Members) (m : ScenarioMove) → IsMove ss ms m → IsMove rs ms m
moved rs ss same ms m (inl is) = inl (is.0, moved_deliver rs ss same ms m is.1)
moved rs ss same ms m (inr (inl is)) = inr (inl (is.0, moved_carry rs ss same ms m is.1))
moved rs ss same ms m (inr (inr (inl is))) = inr (inr (inl is))
moved rs ss same ms m (inr (inr (inr (inl is)))) = inr (inr (inr (inl (is.0, moved_restart rs ss same ms m is.1))))
moved rs ss same ms m (inr (inr (inr (inr (inl is))))) =
    inr (inr (inr (inr (inl (is.0, moved_reload rs ss same ms m is.1)))))
moved rs ss same ms m (inr (inr (inr (inr (inr is))))) = inr (inr (inr (inr (inr (moved_event rs ss same ms m is)))))

moved_table : (rs ss : List RouterText) → ((name : List ℕ) → place_of rs name ≡ place_of ss name)
    → (d : Data) (m : ScenarioMove) → IsTable (IsMove ss) d m → IsTable (IsMove rs) d m
moved_table rs ss same d m is = (is.0, is.1, moved rs ss same is.0 m is.2)

-- the moves of routers that the same tables describe
pub moves_for : (ds es : List Data) (rs ss : List RouterText) (ms : List ScenarioMove)
    → AllZip (IsTable IsRouter) ds rs → AllZip (IsTable IsRouter) ds ss
    → AllZip (IsTable (IsMove ss)) es ms → AllZip (IsTable (IsMove rs)) es ms
moves_for ds es rs ss ms a b all =
    zip_weaker (IsTable (IsMove ss)) (IsTable (IsMove rs)) es ms
    (moved_table rs ss (places_same rs ss (names_same ds rs ss a b))) all

pub moves_of : (ms : Members) (ds es : List Data) (rs : List RouterText)
    → Some ds ≡ list_or_empty (codes "router") ms → Some es ≡ list_or_empty (codes "move") ms → AreRouters ds rs
    → (s : Scenario) → IsScenario ms s → (moves : List ScenarioMove) × AllZip (IsTable (IsMove rs)) es moves
moves_of ms ds es rs at_router at_move read s is =
    let routers : AreRouters ds s.routers =
    rw (the_same (list_or_empty (codes "router") ms) ds is.routers.0 at_router is.routers.1) is.routers.2 in
    let moves : AllZip (IsTable (IsMove s.routers)) es s.moves =
    rw (the_same (list_or_empty (codes "move") ms) es is.moves.0 at_move is.moves.1) is.moves.2 in
    (s.moves, moves_for ds es rs s.routers s.moves read.tables routers.tables moves)
