-- Where new routes or RP ranges leave a source with the routes that it has by those which they replaced, the source
-- stays: what follows of the change moves no route.
use Rattle.std.{proofs.Common.{◌≡◌, ◌≤◌, ◌&&◌, ℕ, true, false, List, [], length, refl, sym, ap, ◌∙◌}, specs.{Cmp.{first_so, second_so, Derive.both_true}, Prelude.option_and_then}}
use Rattle.pim_types.{specs.{declared.config.{Route.Route, RpTable.RpTable}, Keys.source_key}}
use Rattle.pim_model.{specs.{declared.accepted.Accepted.Accepted, Clearing.clear, Firing.settled, Messages.Message, Rows.{same_both, same_path}, State.State, Step.{change, done, rps_replaced}, Tables.same_option, Unicast.{route, route_among, rp_among, rp_of, rp_route}, Upstream.upstream}}
use Rattle.law_settled.{proofs.Unsettled.{Unsettled, settling_leaves}}
use Rattle.law_events.{specs.{Locality.{AgreesBut, IsQuiet, touching}, Scopes.{reads, scope}, Moved.IsRerouted, Named.{has_same_routes, has_same_rp, is_source_named}}, proofs.{QuietStates.{frame_packets, frame_upstream}, SharedMacros.route_local, Touches.agrees_then, Reached.{Keeps, clearing_keeps}, Rerouted.{around_rerouted, rerouted_beside, rerouted_unnamed, routes_reroute, rps_reroute}, NamedSameRows.{options, paths}, Sights.{options_same, paths_same}}}
use Rattle.law_plane.{specs.Staying.SourceStays, proofs.Staying.unnamed_source_stays}

-- the same routes, either way
turned : (s t : State) (g src : ℕ) → has_same_routes g src s t ≡ true → has_same_routes g src t s ≡ true
unfolding has_same_routes has_same_rp
turned s t g src e =
    let group = first_so (same_option (rp_of s g) (rp_of t g) && same_both same_path (rp_route s g) (rp_route t g))
    (same_both same_path (route s src) (route t src)) e in
    let source = second_so (same_option (rp_of s g) (rp_of t g) && same_both same_path (rp_route s g) (rp_route t g))
    (same_both same_path (route s src) (route t src)) e in
    let rp = first_so (same_option (rp_of s g) (rp_of t g)) (same_both same_path (rp_route s g) (rp_route t g)) group in
    let way = second_so (same_option (rp_of s g) (rp_of t g)) (same_both same_path (rp_route s g) (rp_route t g)) group in
    both_true (both_true (options_same (rp_of t g) (rp_of s g) (sym (options (rp_of s g) (rp_of t g) rp)))
    (paths_same (rp_route t g) (rp_route s g) (sym (paths (rp_route s g) (rp_route t g) way))))
    (paths_same (route t src) (route s src) (sym (paths (route s src) (route t src) source)))

-- the state with these routes and RP ranges
abbrev placed : List Route → RpTable → State → State
placed routes ranges s = record s { routes = routes; ranges = ranges }

module _ (o c : State) (is : IsRerouted o c) (up : c.interfaces ≡ o.interfaces) (messages : List Message) (w : ℕ) where
  abbrev after : State
  after = (clear o c).0

  abbrev end : State
  end = (settled o (c, messages) w).0

  agrees_in_the_end : AgreesBut (touching []) after end
  unfolding settled
  agrees_in_the_end =
      agrees_then (touching []) after (upstream o after w).0 (settled o (c, messages) w).0 (frame_upstream o after w)
      (frame_packets (upstream o after w).0 _)

  kept : Keeps c after
  kept = clearing_keeps o c

  placed_after : (routes : List Route) (ranges : RpTable) (a : ℕ)
      → route (placed routes ranges after) a ≡ route (placed routes ranges o) a
  unfolding route
  placed_after routes ranges a =
      let configured : after.configured ≡ o.configured =
      sym kept.configured ∙ ap (λ (u : State). u.configured) is.only in
      let interfaces : after.interfaces ≡ o.interfaces = sym kept.interfaces ∙ up in
      λ j. route_among (configured j) (interfaces j) routes a

  placed_route : (routes : List Route) (ranges : RpTable) (a : ℕ)
      → route (placed routes ranges end) a ≡ route (placed routes ranges o) a
  unfolding scope touching
  placed_route routes ranges a =
      sym (route_local (reads (source_key 0 0 0)) (placed routes ranges end) a)
      ∙ (ap (λ (u : State). route (placed routes ranges u) a) (sym (agrees_in_the_end (source_key 0 0 0) refl))
      ∙ (route_local (reads (source_key 0 0 0)) (placed routes ranges after) a ∙ placed_after routes ranges a))

  placed_rp_route : (routes : List Route) (ranges : RpTable) (g : ℕ)
      → rp_route (placed routes ranges end) g ≡ rp_route (placed routes ranges o) g
  unfolding rp_route rp_of
  placed_rp_route routes ranges g = λ j. option_and_then (λ a. placed_route routes ranges a j) (rp_among ranges g)

  same_placed : (routes others : List Route) (ranges more : RpTable) (g src : ℕ)
      → has_same_routes g src (placed routes ranges end) (placed others more end)
      ≡ has_same_routes g src (placed routes ranges o) (placed others more o)
  unfolding has_same_routes has_same_rp rp_of
  same_placed routes others ranges more g src = λ j.
      (same_option (rp_among ranges g) (rp_among more g)
      && same_both same_path (placed_rp_route routes ranges g j) (placed_rp_route others more g j))
      && same_both same_path (placed_route routes ranges src j) (placed_route others more src j)

  routes_end : end.routes ≡ c.routes
  routes_end = ap (λ (u : Unsettled). u.routes) (settling_leaves o (c, messages) w)

  ranges_end : end.ranges ≡ c.ranges
  ranges_end = ap (λ (u : Unsettled). u.ranges) (settling_leaves o (c, messages) w)

  -- what the source has by the routes and ranges in the end, and by others, are those at the opening
  same_at_opening : (others : List Route) (more : RpTable) (g src : ℕ)
      → has_same_routes g src end (placed others more end)
      ≡ has_same_routes g src (placed c.routes c.ranges o) (placed others more o)
  same_at_opening others more g src =
      same_placed end.routes others end.ranges more g src
      ∙ (λ j. has_same_routes g src (placed (routes_end j) (ranges_end j) o) (placed others more o))

  placed_change : (a : ℕ) → route (placed c.routes c.ranges o) a ≡ route c a
  unfolding route
  placed_change a =
      let configured : o.configured ≡ c.configured = sym (ap (λ (u : State). u.configured) is.only) in
      let interfaces : o.interfaces ≡ c.interfaces = sym up in
      λ j. route_among (configured j) (interfaces j) c.routes a

  -- the change has the routes that the opening has by its lists
  same_change : (g src : ℕ) → has_same_routes g src (placed c.routes c.ranges o) o ≡ has_same_routes g src c o
  unfolding has_same_routes has_same_rp rp_route rp_of
  same_change g src = λ j.
      (same_option (rp_among c.ranges g) (rp_among o.ranges g)
      && same_both same_path (option_and_then (λ a. placed_change a j) (rp_among c.ranges g)) (rp_route o g))
      && same_both same_path (placed_change src j) (route o src)

  -- the source has in the end the routes that it had by what was replaced, so it has the same after the change
  same_after_change : (g src : ℕ) → has_same_routes g src end (placed o.routes o.ranges end) ≡ true
      → has_same_routes g src o c ≡ true
  same_after_change g src calm =
      turned c o g src (sym (same_change g src) ∙ (sym (same_at_opening o.routes o.ranges g src) ∙ calm))

  unnamed_where_same : IsQuiet o → (g src : ℕ) → has_same_routes g src o c ≡ true
      → is_source_named g src o (clear o c).0 ≡ false
  unnamed_where_same quiet g src same =
      rerouted_unnamed o c (around_rerouted o c is) (rerouted_beside o c is) quiet g src same

module _ (s : State) (quiet : IsQuiet s) (few : length s.configured.interfaces ≤ 120) (w g src : ℕ) where
  pub same_routes_stay : (routes : List Route)
      → (let end : State = (done s w (change s w (Accepted.Routes routes))).state in
      has_same_routes g src end (record end { routes = s.routes }) ≡ true → SourceStays g src s end)
  unfolding done change
  same_routes_stay routes same =
      let c : State = record s { routes = routes } in
      let is : IsRerouted s c = routes_reroute s w routes in
      let end : State = (settled s (c, []) w).0 in
      let calm : has_same_routes g src end (placed s.routes s.ranges end) ≡ true =
      ap (λ (ranges : RpTable). has_same_routes g src end (placed s.routes ranges end))
      (sym (ranges_end s c is refl [] w))
      ∙ same in
      unnamed_source_stays s w (Accepted.Routes routes) few g src
      (unnamed_where_same s c is refl [] w quiet g src (same_after_change s c is refl [] w g src calm))

  pub same_rps_stay : (ranges : RpTable)
      → (let end : State = (done s w (change s w (Accepted.Rps ranges))).state in
      has_same_routes g src end (record end { ranges = s.ranges }) ≡ true → SourceStays g src s end)
  unfolding done change rps_replaced
  same_rps_stay ranges same =
      let c : State = rps_replaced s ranges in
      let is : IsRerouted s c = rps_reroute s w ranges in
      let end : State = (settled s (c, []) w).0 in
      let calm : has_same_routes g src end (placed s.routes s.ranges end) ≡ true =
      ap (λ (routes : List Route). has_same_routes g src end (placed routes s.ranges end))
      (sym (routes_end s c is refl [] w))
      ∙ same in
      unnamed_source_stays s w (Accepted.Rps ranges) few g src
      (unnamed_where_same s c is refl [] w quiet g src (same_after_change s c is refl [] w g src calm))
