-- What an event replaced of routes and RP ranges, in turn; and that of all sources the same is offered but of those of
-- which the offer may differ.
use Rattle.std.{specs.{Prelude.{if◌then◌else◌, option_and_then}, Cmp.Derive.both_true}, proofs.Common.{◌≡◌, ◌≤◌, ◌&&◌, ◌||◌, ℕ, Bool, true, false, not, Option, List, Result, Ok, Err, OnOk, length, refl, ap, subst, sym, ◌∙◌}}
use Rattle.pim_types.{specs.declared.{config.{Route.Route, RpTable.RpTable}, event.Event.Event}}
use Rattle.pim_model.{specs.{declared.accepted.Accepted.Accepted, Full.{is_full, passes_limit}, Judging.{Judged, judged}, Rows.{same_both, same_path}, State.State, Step.{change, concluded, done, rps_replaced, step, taken, taken_unless_full}, Tables.{same_bool, same_option}, Unicast.{route, rp_among, rp_of, rp_route}}}
use Rattle.law_events.{specs.{Rest.IsAtRest, Named.{has_same_routes, has_same_rp}}, proofs.{SameRows.flags, NamedSameRows.{not_false, options}, Sights.paths_same}}
use Rattle.pim_state.{specs.declared.touched.Touched.Touched}
use Rattle.law_plane.{specs.{Offered.offered, Staying.{OffersAlike, SourceStays}}, proofs.Staying.offer_stays}
use Rattle.pim_rerouted.{specs.OtherRoutes.{group_has_other_rp, has_other_route, with_routes}}
use Rattle.pim_event.{specs.{Replacing.{NoneReplaced, RangesReplaced, Replaced, RoutesReplaced, differs_by, event_replaced, may_differ, replaced_after, replaced_where, with_table}, Staying.{OffersStay, UntouchedOffersStay}}, proofs.Rerouting.{same_routes_stay, same_rps_stay}}

-- ---- other routes by a table

-- with other RP ranges the route to each address is the same
module _ (s : State) (ranges : RpTable) where
  route_there : (address : ℕ) → route (with_table s ranges) address ≡ route s address
  unfolding route
  route_there address = refl

  way_there : (rp : Option ℕ) → option_and_then (route (with_table s ranges)) rp ≡ option_and_then (route s) rp
  way_there rp = λ j. option_and_then (λ a. route_there a j) rp

  same_by_rp : (src : ℕ) (a b : Option ℕ) (is : Bool) → same_option a b ≡ is
      → ((is && same_both same_path (option_and_then (route s) a) (option_and_then (route (with_table s ranges)) b))
      && same_both same_path (route s src) (route (with_table s ranges) src)) ≡ is
  same_by_rp src a b true e =
      both_true (both_true refl (paths_same _ _ (ap (option_and_then (route s)) (options a b e) ∙ sym (way_there b))))
      (paths_same _ _ (sym (route_there src)))
  same_by_rp src a b false e = refl

  pub other_by_ranges : (g src : ℕ)
      → group_has_other_rp s (rps_replaced s ranges) g ≡ not (has_same_routes g src s (with_table s ranges))
  unfolding has_same_routes has_same_rp rp_route rp_of rps_replaced
  other_by_ranges g src =
      ap not (sym (same_by_rp src (rp_among s.ranges g) (rp_among ranges g)
      (same_option (rp_among s.ranges g) (rp_among ranges g)) refl))

either_other : (a b : Bool) → (not a || not b) ≡ not (a && b)
either_other true b = refl
either_other false b = refl

module _ (s : State) (routes : List Route) (g src : ℕ) (moved : Bool)
    (moves : moved ≡ not (has_same_rp g s (with_routes s routes))) where
  other_by_routes : (other : Bool) → other ≡ has_other_route s (with_routes s routes) src
      → (moved || other) ≡ not (has_same_routes g src s (with_routes s routes))
  unfolding has_same_routes
  other_by_routes other differs =
      (λ j. moves j || differs j)
      ∙ either_other (has_same_rp g s (with_routes s routes))
      (same_both same_path (route s src) (route (with_routes s routes) src))

  pub other_where_moved : moved ≡ true → true ≡ not (has_same_routes g src s (with_routes s routes))
  other_where_moved is =
      ap (λ (b : Bool). b || has_other_route s (with_routes s routes) src) (sym is)
      ∙ other_by_routes (has_other_route s (with_routes s routes) src) refl

  pub other_where_calm : moved ≡ false → (other : Bool) → other ≡ has_other_route s (with_routes s routes) src
      → other ≡ not (has_same_routes g src s (with_routes s routes))
  other_where_calm is other differs = ap (λ (b : Bool). b || other) (sym is) ∙ other_by_routes other differs

-- ---- what is replaced, in turn

pub full_replaces_none : (s : State) (a : Accepted) (before : Replaced) → is_full s a ≡ true
    → before ≡ replaced_after s a before
unfolding is_full
full_replaces_none s (Accepted.Routes routes) before full = cc
full_replaces_none s (Accepted.Rps ranges) before full = cc
full_replaces_none s a before full = refl

either_none : (b : Bool) → (if b then NoneReplaced else NoneReplaced) ≡ NoneReplaced
either_none true = refl
either_none false = refl

pub none_replaced : (s : State) (e : Event) (replaced : Replaced) → replaced_where s (judged s e.kind) ≡ NoneReplaced
    → replaced ≡ NoneReplaced → replaced ≡ event_replaced s e
unfolding event_replaced
none_replaced s e replaced none is =
    let room : Bool = same_bool (passes_limit s 1) (passes_limit (step s e).state 1) in
    is
    ∙ (sym (either_none room) ∙ ap (λ (r : Replaced). if room then r else NoneReplaced) (sym none))

turned : (b : Bool) (x y : Replaced) → (if not b then x else y) ≡ (if b then y else x)
turned true x y = refl
turned false x y = refl

pub turn_replaces : (s t : State) (e : Event) (a : Accepted) (w : ℕ) (before now after : Replaced) (was is differs : Bool)
    → judged s e.kind ≡ Ok a → w ≡ e.draw → before ≡ NoneReplaced → now ≡ replaced_after s a before
    → t ≡ (taken_unless_full s w a).state → was ≡ passes_limit s 1 → is ≡ passes_limit t 1
    → differs ≡ not (same_bool was is) → after ≡ (if differs then NoneReplaced else now) → after ≡ event_replaced s e
unfolding event_replaced step
turn_replaces s t e a w before now after was is differs heard draws none keeps state was_so is_so exact chooses =
    let told : now ≡ replaced_where s (judged s e.kind) =
    keeps ∙ (ap (replaced_after s a) none ∙ ap (replaced_where s) (sym heard)) in
    let after_it : t ≡ (step s e).state =
    state
    ∙ (ap (λ (v : ℕ). (taken_unless_full s v a).state) draws
    ∙ ap (λ (j : Judged). (concluded s (taken_unless_full s e.draw) j).state) (sym heard)) in
    let room : same_bool was is ≡ same_bool (passes_limit s 1) (passes_limit (step s e).state 1) =
    ap (λ (b : Bool). same_bool b is) was_so
    ∙ ap (λ (b : Bool). same_bool (passes_limit s 1) b) (is_so ∙ ap (λ (u : State). passes_limit u 1) after_it) in
    chooses
    ∙ (ap (λ (b : Bool). if b then NoneReplaced else now) exact
    ∙ (turned (same_bool was is) NoneReplaced now
    ∙ (ap (λ (b : Bool). if b then now else NoneReplaced) room
    ∙ ap (λ (r : Replaced). if same_bool (passes_limit s 1) (passes_limit (step s e).state 1) then r else NoneReplaced)
    told)))

-- ---- what is offered

-- routes are replaced by new routes alone, and RP ranges by new ranges alone, where the room for facts stays
routes_case : (s : State) (j : Judged) (room : Bool) (before : List Route) (X : Type 0)
    → RoutesReplaced before ≡ (if room then replaced_where s j else NoneReplaced)
    → ((routes : List Route) → j ≡ Ok (Accepted.Routes routes) → room ≡ true → before ≡ s.routes → X) → X
routes_case s j false before X is next = cc
routes_case s (Err stop) true before X is next = cc
routes_case s (Ok (Accepted.Routes routes)) true before X is next = next routes refl refl (cc is)
routes_case s (Ok (Accepted.Rps ranges)) true before X is next = cc
routes_case s (Ok a) true before X is next = cc

ranges_case : (s : State) (j : Judged) (room : Bool) (before : RpTable) (X : Type 0)
    → RangesReplaced before ≡ (if room then replaced_where s j else NoneReplaced)
    → ((ranges : RpTable) → j ≡ Ok (Accepted.Rps ranges) → room ≡ true → before ≡ s.ranges → X) → X
ranges_case s j false before X is next = cc
ranges_case s (Err stop) true before X is next = cc
ranges_case s (Ok (Accepted.Routes routes)) true before X is next = cc
ranges_case s (Ok (Accepted.Rps ranges)) true before X is next = next ranges refl refl (cc is)
ranges_case s (Ok a) true before X is next = cc

module _ (s : State) (e : Event) where
  routes_done : (routes : List Route) → judged s e.kind ≡ Ok (Accepted.Routes routes)
      → (step s e).state ≡ (done s e.draw (change s e.draw (Accepted.Routes routes))).state
  unfolding step taken_unless_full taken is_full
  routes_done routes heard = ap (λ (j : Judged). (concluded s (taken_unless_full s e.draw) j).state) heard

  rps_done : (ranges : RpTable) → judged s e.kind ≡ Ok (Accepted.Rps ranges)
      → (step s e).state ≡ (done s e.draw (change s e.draw (Accepted.Rps ranges))).state
  unfolding step taken_unless_full taken is_full
  rps_done ranges heard = ap (λ (j : Judged). (concluded s (taken_unless_full s e.draw) j).state) heard

  module _ (t : State) (rest : IsAtRest s) (few : length s.configured.interfaces ≤ 120) (is : t ≡ (step s e).state) (g src : ℕ) where
    room_stays : same_bool (passes_limit s 1) (passes_limit (step s e).state 1) ≡ true
        → passes_limit s 1 ≡ passes_limit t 1
    room_stays room =
        flags (passes_limit s 1) (passes_limit (step s e).state 1) room
        ∙ ap (λ (u : State). passes_limit u 1) (sym is)

    routes_offer : (before : List Route) → RoutesReplaced before ≡ event_replaced s e
        → has_same_routes g src t (with_routes t before) ≡ true → OffersAlike (offered s g src) (offered t g src)
    unfolding event_replaced
    routes_offer before replaces calm =
        routes_case s (judged s e.kind) (same_bool (passes_limit s 1) (passes_limit (step s e).state 1)) before
        (OffersAlike (offered s g src) (offered t g src)) replaces
        (λ routes heard room same.
        let end : State = (done s e.draw (change s e.draw (Accepted.Routes routes))).state in
        let ends : t ≡ end = is ∙ routes_done routes heard in
        let there : has_same_routes g src end (with_routes end s.routes) ≡ true =
        (λ j. has_same_routes g src (sym ends j) (with_routes (sym ends j) (sym same j))) ∙ calm in
        offer_stays s t g src
        (subst (λ (u : State). SourceStays g src s u) (sym ends)
        (same_routes_stay s rest.quiet few e.draw g src routes there)) (room_stays room))

    ranges_offer : (before : RpTable) → RangesReplaced before ≡ event_replaced s e
        → has_same_routes g src t (with_table t before) ≡ true → OffersAlike (offered s g src) (offered t g src)
    unfolding event_replaced
    ranges_offer before replaces calm =
        ranges_case s (judged s e.kind) (same_bool (passes_limit s 1) (passes_limit (step s e).state 1)) before
        (OffersAlike (offered s g src) (offered t g src)) replaces
        (λ ranges heard room same.
        let end : State = (done s e.draw (change s e.draw (Accepted.Rps ranges))).state in
        let ends : t ≡ end = is ∙ rps_done ranges heard in
        let there : has_same_routes g src end (with_table end s.ranges) ≡ true =
        (λ j. has_same_routes g src (sym ends j) (with_table (sym ends j) (sym same j))) ∙ calm in
        offer_stays s t g src
        (subst (λ (u : State). SourceStays g src s u) (sym ends)
        (same_rps_stay s rest.quiet few e.draw g src ranges there)) (room_stays room))

offers_stay : (s t : State) (e : Event) (touched : Touched) (replaced : Replaced) → IsAtRest s
    → length s.configured.interfaces ≤ 120 → t ≡ (step s e).state → UntouchedOffersStay touched s t → replaced ≡ event_replaced s e
    → OffersStay (record { touched = touched; replaced = replaced }) s t
unfolding may_differ differs_by
offers_stay s t e touched NoneReplaced rest few is stays replaces g src out = stays g src out
offers_stay s t e touched (RoutesReplaced before) rest few is stays replaces g src out =
    routes_offer s e t rest few is g src before replaces (not_false _ out)
offers_stay s t e touched (RangesReplaced before) rest few is stays replaces g src out =
    ranges_offer s e t rest few is g src before replaces (not_false _ out)

pub offers_stay_after : {A E : Type 0} (r : Result A E) (s t : State) (e : Event) (touched : Touched)
    (replaced : Replaced) → IsAtRest s → length s.configured.interfaces ≤ 120 → OnOk r (t ≡ (step s e).state)
    → OnOk r (UntouchedOffersStay touched s t) → OnOk r (replaced ≡ event_replaced s e)
    → OnOk r (OffersStay (record { touched = touched; replaced = replaced }) s t)
offers_stay_after (Ok x) s t e touched replaced rest few is stays replaces =
    offers_stay s t e touched replaced rest few is stays replaces
offers_stay_after (Err x) s t e touched replaced rest few is stays replaces = tt
