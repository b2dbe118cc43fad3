-- Where routes change, a source with the same routes isn't named: what goes, and which registers change, is of others.
use Rattle.std.{proofs.{Common.{◌≡◌, ℕ, Bool, true, false, not, ◌&&◌, ◌||◌, cond, List, [], ◌∷◌, ◌++◌, filter, fold, map, Option, Some, None, option_and_then, option_map, refl, sym, ap, subst, ◌∙◌, eq-eqb, eqb-true, arith}, lemmas.{List.Folds.list_all-append, Bool.false_from_ne_true}}, specs.{Cmp.{first_so, second_so, Derive.both_true}, List.{AllByRecursion, find, list_all}}}
use Rattle.pim_types.{specs.{declared.{config.{Route.Route, RpTable.RpTable}, fact.{AssertRow.AssertRow, Key.Key, RegisterRow.RegisterRow, RegisterState.RegisterState, SourceRow.SourceRow}}, Keys.{group_in, iface_in, is_star, names_source, source_in, star_key}}}
use Rattle.pim_model.{specs.{Asserts.{assert_forgotten, could_assert_at, is_tracking_at, my_metric_at, without_spt_bit}, Clearing.{ClearAssert, ClearSptBit, Cleared, assert_must_go, assert_to_clear, clear, clear_all, clearable_count, cleared, first_by, is_assert_first, is_rpf_at, spt_must_go, spt_to_clear, to_clear}, declared.accepted.Accepted.Accepted, Desires.join_desired, Reach.{agrees_for_source, names_star}, Receivers.{is_exclude, is_exclude_among}, Registers.{could_register, registers_after_rps, settle_registers, settled_register}, Rows.{same_both, same_path}, Sets.{assert_star, is_kept_alive, joins_star}, State.State, Step.{change, rps_replaced}, Tables.{Table, drop_at, has_row, keys_in, put, row_at, rows_where, same_option}, Unicast.{route, route_among, rp_among, rp_of, rp_route}}}
use Rattle.law_settled.{proofs.{ListLaws.{all_of_filter, first_of_all}, RowChanges.{changed_elsewhere, dropped_elsewhere, put_elsewhere}, TurnLaws.kept_to_the_end}}
use Rattle.law_events.{specs.{Locality.{IsQuiet, is_register_settled}, Sees.{SeesSource, SeesStar}, Moved.{IsRerouted, RoutesReroute, RpsReroute, is_moved, is_of_place}, Named.{has_same_routes, has_same_rp, is_source_named, is_rerouted, named_by, named_where}}, proofs.{Clearing.all_beside, Registers.{all_keys, nothing_dropped}, Rows.{has_row_in_scope, row_in_scope}, SameMacros.{could_assert_same, could_assert_star_same, could_register_same, is_tracking_same, is_tracking_star_same, join_desired_same, my_metric_same, my_metric_star_same, rpf_at_same, rpf_rp_at_same}, SameRows.flags, Agreed.{SameSourceRows, SameStarRows, rows_within, same_with_rows}, Asked.asked_alone, FactsThere.{isnt_star, some_source}, Reached.{Keeps, one_cleared, same_is_unnamed}, NamedSameRows.{not_false, options, paths}, Unreached.{Around, alike, alike_sees, dr_around, kept_alive_same, nbr_around, neighbour_around}}}

-- ---- either way

pub pick : {X : Type 0} (P : X → Type 0) (b : Bool) (x y : X) → (b ≡ true → P x) → (b ≡ false → P y) → P (cond b x y)
pick P b x y f h = grind arith

both_picked : {X : Type 0} (b : Bool) (x y x' y' : X) → (b ≡ true → x ≡ x') → (b ≡ false → y ≡ y')
    → cond b x y ≡ cond b x' y'
both_picked b x y x' y' f h = grind arith

-- ---- rows that stay beside others

module _ {R : Type 0} (p q : Key × R → Bool) (sees : Key → Key → Bool) (itself : (k : Key) → sees k k ≡ true)
    (touched : Key → Bool)
    (moves : (e : Key × R) → touched e.0 ≡ false → p e ≡ true → q e ≡ true) where
  all_kept : (t u : Table R) → ((k : Key) → touched k ≡ false → rows_where (sees k) t ≡ rows_where (sees k) u)
      → list_all p t ≡ true → list_all (λ e. touched e.0 || q e) u ≡ true
  unfolding rows_where
  all_kept t u same e =
      all_beside p q sees itself touched moves u (λ k f. ap (list_all p) (sym (same k f)) ∙ all_of_filter (λ x. sees k x.0) p t e)

-- of rows none of which passes beside the touched ones, those that pass are touched
module _ {R : Type 0} (touched : Key → Bool) (p : Key × R → Bool) where
  each_step : (x : Key × R) (xs : Table R) (b c : Bool) → p x ≡ b → touched x.0 ≡ c → (c || not b) ≡ true
      → AllByRecursion (λ (e : Key × R). touched e.0 ≡ true) xs
      → AllByRecursion (λ (e : Key × R). touched e.0 ≡ true) (cond b (x ∷ xs) xs)
  each_step x xs b c e f h ih = grind arith

  each_touched : (t : Table R) → list_all (λ e. touched e.0 || not (p e)) t ≡ true
      → AllByRecursion (λ (e : Key × R). touched e.0 ≡ true) (filter p t)
  each_touched [] e = tt
  each_touched (x ∷ xs) e =
      each_step x (filter p xs) (p x) (touched x.0) refl refl
      (first_so (touched x.0 || not (p x)) (list_all (λ e. touched e.0 || not (p e)) xs) e)
      (each_touched xs (second_so (touched x.0 || not (p x)) (list_all (λ e. touched e.0 || not (p e)) xs) e))

  find_step : (x d : Key × R) (o : Option (Key × R)) (b c : Bool) → touched x.0 ≡ c → (c || not b) ≡ true
      → (o ≡ Some d → touched d.0 ≡ true) → cond b (Some x) o ≡ Some d → touched d.0 ≡ true
  find_step x d o b c e f ih g = grind arith

  found_touched : (t : Table R) (d : Key × R) → list_all (λ e. touched e.0 || not (p e)) t ≡ true
      → find p t ≡ Some d → touched d.0 ≡ true
  found_touched [] d e f = cc
  found_touched (x ∷ xs) d e f =
      find_step x d (find p xs) (p x) (touched x.0) refl
      (first_so (touched x.0 || not (p x)) (list_all (λ e. touched e.0 || not (p e)) xs) e)
      (found_touched xs d (second_so (touched x.0 || not (p x)) (list_all (λ e. touched e.0 || not (p e)) xs) e)) f

-- ---- keys

abbrev names : Key → Key → Bool
names k = cond (is_star k) (names_star (group_in k)) (names_source (group_in k) (source_in k))

names_itself : (k : Key) → names k k ≡ true
unfolding names_source
names_itself k = grind (arith, pick, eq-eqb, some_source)

place_itself : (k : Key) → is_of_place (group_in k) (source_in k) k ≡ true
place_itself k = both_true (eq-eqb (group_in k) (group_in k) refl) (eq-eqb (source_in k) (source_in k) refl)

named_place : (g src : ℕ) (k : Key) → names_source g src k ≡ true → is_of_place g src k ≡ true
unfolding names_source
named_place g src k e = grind arith

row_same : {R : Type 0} (test : Key → Bool) (k : Key) → test k ≡ true → (t u : Table R)
    → rows_where test t ≡ rows_where test u → row_at t k ≡ row_at u k
row_same test k seen t u e =
    sym (row_in_scope test k seen t) ∙ (ap (λ (rows : Table _). row_at rows k) e ∙ row_in_scope test k seen u)

touched_star : (b p q : Bool) → cond b (not p) (not q) ≡ true → b ≡ true → p ≡ true → ⊥
touched_star b p q e f h = grind arith

touched_source : (b p q : Bool) → cond b (not p) (not q) ≡ true → b ≡ false → q ≡ true → ⊥
touched_source b p q e f h = grind arith

calm_star : (b p q : Bool) → cond b (not p) (not q) ≡ false → b ≡ true → p ≡ true
calm_star b p q e f = grind arith

calm_source : (b p q : Bool) → cond b (not p) (not q) ≡ false → b ≡ false → q ≡ true
calm_source b p q e f = grind arith

never_not : (b : Bool) → not b ≡ true → b ≡ true → ⊥
never_not b e f = grind arith

-- ---- the states after a change of routes

module _ (o c : State) (around : Around o c) where
  -- facts of other keys may go
  abbrev touches : Key → Bool
  touches = is_moved o c

  abbrev touches_place : Key → Bool
  touches_place = is_rerouted o c

  star_apart : (g : ℕ) (k : Key) → touches k ≡ true → has_same_rp g o c ≡ true → names_star g k ≡ false
  star_apart g k e calm = grind (arith, false_from_ne_true, touched_star, eqb-true)

  same_place : (g src : ℕ) (k : Key) → is_of_place g src k ≡ true → has_same_routes g src o c ≡ true
      → has_same_routes (group_in k) (source_in k) o c ≡ true
  same_place g src k e calm = grind (arith, eqb-true)

  source_apart : (g src : ℕ) (k : Key) → touches k ≡ true → has_same_routes g src o c ≡ true
      → names_source g src k ≡ false
  unfolding names_source
  source_apart g src k e calm = grind (arith, false_from_ne_true, touched_source, isnt_star, same_place, named_place)

  place_apart : (g src : ℕ) (k : Key) → touches_place k ≡ true → has_same_routes g src o c ≡ true
      → is_of_place g src k ≡ false
  place_apart g src k e calm = grind (arith, false_from_ne_true, never_not, same_place)

  -- where the routes of a source are the same, so is its RP
  rp_of_routes : (g src : ℕ) → has_same_routes g src o c ≡ true → has_same_rp g o c ≡ true
  unfolding has_same_routes
  rp_of_routes g src e = first_so (has_same_rp g o c) (same_both same_path (route o src) (route c src)) e

  -- the rows of a source; its fact and its register by their place
  record PlaceRows (g src : ℕ) (t : State) : Type 0 where
    source_records : rows_where (names_source g src) o.source_records
        ≡ rows_where (names_source g src) t.source_records
    downstream : rows_where (names_source g src) o.downstream ≡ rows_where (names_source g src) t.downstream
    asserts : rows_where (names_source g src) o.asserts ≡ rows_where (names_source g src) t.asserts
    sources : rows_where (is_of_place g src) o.sources ≡ rows_where (is_of_place g src) t.sources
    registers : rows_where (is_of_place g src) o.registers ≡ rows_where (is_of_place g src) t.registers

  -- where the routes are the same, so are the rows
  pub record Beside (t : State) : Type 0 where
    kept : Keeps c t
    star : (g : ℕ) → has_same_rp g o c ≡ true → SameStarRows g o t
    source : (g src : ℕ) → has_same_routes g src o c ≡ true → PlaceRows g src t

  -- ---- what is read there

  module _ (t : State) (beside : Beside t) where
    around_now : Around o t
    around_now = grind arith

    route_now : (x : ℕ) → route c x ≡ route t x
    unfolding route
    route_now x = λ j. route_among (beside.kept.configured j) (beside.kept.interfaces j) (beside.kept.routes j) x

    rp_now : (g : ℕ) → rp_of c g ≡ rp_of t g
    unfolding rp_of
    rp_now g = λ j. rp_among (beside.kept.ranges j) g

    rp_route_now : (g : ℕ) → rp_route c g ≡ rp_route t g
    unfolding rp_route
    rp_route_now g = λ j. option_and_then (λ x. route_now x j) (rp_now g j)

    module _ (g : ℕ) (calm : has_same_rp g o c ≡ true) where
      same_rp : rp_of o g ≡ rp_of t g
      unfolding has_same_rp
      same_rp = grind (arith, options, rp_now)

      same_rp_route : rp_route o g ≡ rp_route t g
      unfolding has_same_rp
      same_rp_route = grind (arith, paths, rp_route_now)

      star_itself : (i : ℕ) → names_star g (star_key i g) ≡ true
      star_itself i = rw (eq-eqb g g refl) refl

      group_row : (i : ℕ) → row_at o.group_records (star_key i g) ≡ row_at t.group_records (star_key i g)
      group_row i = grind (arith, row_same, star_itself)

      down_row : (i : ℕ) → row_at o.downstream (star_key i g) ≡ row_at t.downstream (star_key i g)
      down_row i = grind (arith, row_same, star_itself)

      assert_row : (i : ℕ) → assert_star o g i ≡ assert_star t g i
      assert_row i = grind (arith, row_same, star_itself)

      pub star_sees : SeesStar g o t
      unfolding joins_star has_row is_exclude is_exclude_among
      star_sees =
          grind (arith, around_now, dr_around, neighbour_around, same_rp, same_rp_route, down_row, assert_row, group_row, nbr_around)

    module _ (g src : ℕ) (calm : has_same_routes g src o c ≡ true) where
      same_route : route o src ≡ route t src
      unfolding has_same_routes
      same_route = grind (arith, paths, route_now)

      source_rows : SameSourceRows g src o t
      source_rows =
          let rows : PlaceRows g src t = beside.source g src calm in
          record {
            source_records = rows.source_records;
            downstream = rows.downstream;
            asserts = rows.asserts;
            sources = rows_within (names_source g src) (is_of_place g src) (named_place g src) o.sources t.sources
                rows.sources;
            registers = rows_within (names_source g src) (is_of_place g src) (named_place g src) o.registers t.registers
                rows.registers;
          }

      nothing_differs : agrees_for_source g src o t ≡ true
      nothing_differs = grind (arith, same_with_rows, rp_of_routes, source_rows, same_route, same_rp, same_rp_route)

      pub source_sees : SeesSource g src o t
      source_sees = alike_sees g src o t around_now (alike g src o t nothing_differs)

      pub kept_alive : is_kept_alive o g src ≡ is_kept_alive t g src
      kept_alive = kept_alive_same g src o t around_now (alike g src o t nothing_differs)

      pub desired_same : join_desired o g src ≡ join_desired t g src
      desired_same = join_desired_same g src o t source_sees kept_alive

    -- ---- what must go there

    module _ (k : Key) (calm : touches k ≡ false) where
      rp_calm : is_star k ≡ true → has_same_rp (group_in k) o c ≡ true
      rp_calm e = calm_star (is_star k) (has_same_rp (group_in k) o c) (has_same_routes (group_in k) (source_in k) o c) calm e

      routes_calm : is_star k ≡ false → has_same_routes (group_in k) (source_in k) o c ≡ true
      routes_calm e = grind (arith, calm_source)

      could_at : could_assert_at o k ≡ could_assert_at t k
      could_at =
          grind (arith, both_picked, could_assert_star_same, star_sees, rp_calm, could_assert_same, source_sees, routes_calm)

      tracking_at : is_tracking_at o k ≡ is_tracking_at t k
      tracking_at =
          grind (arith, both_picked, is_tracking_star_same, star_sees, rp_calm, is_tracking_same, source_sees, routes_calm, desired_same)

      metric_at : my_metric_at o k ≡ my_metric_at t k
      metric_at =
          both_picked (is_star k) _ _ _ _
          (λ e. my_metric_star_same (group_in k) o t (star_sees (group_in k) (rp_calm e)) (iface_in k))
          (λ e. my_metric_same (group_in k) (source_in k) o t
          (source_sees (group_in k) (source_in k) (routes_calm e)) (iface_in k))

      rpf_at : is_rpf_at o k ≡ is_rpf_at t k
      rpf_at = grind (arith, both_picked, rpf_rp_at_same, star_sees, rp_calm, rpf_at_same, source_sees, routes_calm)

      must_go_same : (r : AssertRow) → assert_must_go o o (k, r) ≡ assert_must_go o t (k, r)
      unfolding assert_must_go
      must_go_same r = grind (arith, could_at, neighbour_around, around_now, tracking_at, metric_at, rpf_at)

    names_same : (k : Key) → touches k ≡ false → rows_where (names k) o.asserts ≡ rows_where (names k) t.asserts
    names_same k calm = grind (arith, pick, rp_calm, routes_calm)

    module _ (quiet : IsQuiet o) where
      pub asserts_beside : list_all (λ e. touches e.0 || not (assert_must_go o t e)) t.asserts ≡ true
      asserts_beside =
          all_kept (λ e. not (assert_must_go o o e)) (λ e. not (assert_must_go o t e)) names names_itself touches
          (λ e calm stays. ap not (sym (must_go_same e.0 calm e.1)) ∙ stays) o.asserts t.asserts names_same
          quiet.clear.asserts

      pub spts_beside : list_all (λ e. touches_place e.0 || not (spt_must_go t e)) t.sources ≡ true
      spts_beside =
          all_kept (λ e. not (spt_must_go o e)) (λ e. not (spt_must_go t e))
          (λ k. is_of_place (group_in k) (source_in k)) place_itself touches_place
          (λ e calm stays. (λ j. not ((e.1).spt
          && not (sym (desired_same (group_in e.0) (source_in e.0) (not_false _ calm)) j))) ∙ stays) o.sources t.sources
          (λ k calm. (beside.source (group_in k) (source_in k) (not_false _ calm)).sources) quiet.clear.sources

      abbrev pub GoesBeside : Cleared → Type 0
      GoesBeside (ClearAssert k r) = touches k ≡ true
      GoesBeside (ClearSptBit k) = touches_place k ≡ true

      assert_goes : (d : Cleared) → assert_to_clear o t ≡ Some d → GoesBeside d
      unfolding assert_to_clear
      assert_goes d e = go (first_by is_assert_first (filter (assert_must_go o t) t.asserts)) refl e
        where
          go : (x : Option (Key × AssertRow)) → first_by is_assert_first (filter (assert_must_go o t) t.asserts) ≡ x
              → option_map (λ (y : Key × AssertRow). ClearAssert y.0 y.1) x ≡ Some d → GoesBeside d
          go None was f = cc
          go (Some y) was f =
              let same : ClearAssert y.0 y.1 ≡ d = cc in
              subst GoesBeside same
              (first_of_all is_assert_first (λ (z : Key × AssertRow). touches z.0 ≡ true)
              (filter (assert_must_go o t) t.asserts)
              (each_touched touches (assert_must_go o t) t.asserts asserts_beside) y was)

      spt_goes : (d : Cleared) → spt_to_clear t ≡ Some d → GoesBeside d
      unfolding spt_to_clear
      spt_goes d e = go (find (spt_must_go t) t.sources) refl e
        where
          go : (x : Option (Key × SourceRow)) → find (spt_must_go t) t.sources ≡ x
              → option_map (λ (y : Key × SourceRow). ClearSptBit y.0) x ≡ Some d → GoesBeside d
          go None was f = cc
          go (Some y) was f =
              let same : ClearSptBit y.0 ≡ d = cc in
              subst GoesBeside same (found_touched touches_place (spt_must_go t) t.sources y spts_beside was)

      pub goes_beside : (d : Cleared) → to_clear o t ≡ Some d → GoesBeside d
      unfolding to_clear
      goes_beside d e = grind (arith, spt_goes, assert_goes)

      pub beside_after : (d : Cleared) → GoesBeside d → Beside (cleared t d).0
      unfolding cleared assert_forgotten without_spt_bit
      beside_after d is =
          grind (arith, one_cleared, dropped_elsewhere, star_apart, source_apart, changed_elsewhere, place_apart)

  -- ---- registers

  module _ (start : Beside c) (quiet : IsQuiet o) where
    abbrev pub Stays : Table RegisterRow → Type 0
    Stays u = (g src : ℕ) → has_same_routes g src o c ≡ true
        → rows_where (is_of_place g src) o.registers ≡ rows_where (is_of_place g src) u

    settled_if : (k : Key) (u : Table RegisterRow) (b d : Bool) → could_register c (group_in k) (source_in k) ≡ b
        → has_row u k ≡ d → b ≡ d → settled_register c k u ≡ u
    unfolding settled_register
    settled_if k u b d e f same = grind (arith, nothing_dropped)

    pub idle : (k : Key) (u : Table RegisterRow) → Stays u → has_same_routes (group_in k) (source_in k) o c ≡ true
        → is_register_settled o k ≡ true → settled_register c k u ≡ u
    idle k u stays calm held =
        let here : Key → Bool = is_of_place (group_in k) (source_in k) in
        settled_if k u (could_register c (group_in k) (source_in k)) (has_row u k) refl refl
        (sym (could_register_same (group_in k) (source_in k) o c (source_sees c start (group_in k) (source_in k) calm)
        (kept_alive c start (group_in k) (source_in k) calm))
        ∙ (flags (could_register o (group_in k) (source_in k)) (has_row o.registers k) held
        ∙ (sym (has_row_in_scope here k (place_itself k) o.registers)
        ∙ (ap (λ (rows : Table RegisterRow). has_row rows k) (stays (group_in k) (source_in k) calm)
        ∙ has_row_in_scope here k (place_itself k) u))))

    goes_elsewhere : (k : Key) (u : Table RegisterRow) (test : Key → Bool) → test k ≡ false
        → (b d : Bool) (row : RegisterRow)
        → rows_where test (cond b (cond d u (put u k row)) (drop_at u k)) ≡ rows_where test u
    goes_elsewhere k u test e b d row = grind (arith, put_elsewhere, dropped_elsewhere)

    goes_on : (k : Key) (u : Table RegisterRow) → touches_place k ≡ true → Stays u → Stays (settled_register c k u)
    unfolding settled_register
    goes_on k u is stays g src calm = grind (arith, goes_elsewhere, place_apart)

    pub turn : (k : Key) (u : Table RegisterRow) (b : Bool) → touches_place k ≡ b
        → (b || is_register_settled o k) ≡ true → Stays u → Stays (settled_register c k u)
    turn k u b e f stays = grind (arith, goes_on, idle, not_false)

    abbrev pub is_idle : Key → Bool
    is_idle k = touches_place k || is_register_settled o k

    turns : (ks : List Key) (u : Table RegisterRow) → Stays u → list_all is_idle ks ≡ true
        → Stays (fold (λ t k. settled_register c k t) u ks)
    turns [] u stays e = stays
    turns (k ∷ ks) u stays e =
        turns ks (settled_register c k u)
        (turn k u (touches_place k) refl (first_so (is_idle k) (list_all is_idle ks) e) stays)
        (second_so (is_idle k) (list_all is_idle ks) e)

    pub all_idle : list_all is_idle (keys_in c.sources ++ keys_in c.registers) ≡ true
    all_idle =
        list_all-append is_idle (keys_in c.sources) (keys_in c.registers)
        ∙ both_true
        (all_keys is_idle c.sources
        ∙ all_kept (λ e. is_register_settled o e.0) (λ e. is_register_settled o e.0)
        (λ k. is_of_place (group_in k) (source_in k)) place_itself touches_place (λ e calm f. f) o.sources c.sources
        (λ k calm. (start.source (group_in k) (source_in k) (not_false _ calm)).sources) quiet.sources_settled)
        (all_keys is_idle c.registers
        ∙ all_kept (λ e. is_register_settled o e.0) (λ e. is_register_settled o e.0)
        (λ k. is_of_place (group_in k) (source_in k)) place_itself touches_place (λ e calm f. f) o.registers c.registers
        (λ k calm. (start.source (group_in k) (source_in k) (not_false _ calm)).registers) quiet.registers_settled)

    pub after_registers : Beside (settle_registers c)
    unfolding settle_registers
    after_registers = grind (arith, turns, all_idle)

    pub beside_end : Beside (clear o c).0
    unfolding clear clear_all
    beside_end =
        kept_to_the_end (to_clear o) cleared Beside
        (λ t d beside e. beside_after t beside quiet d (goes_beside t beside quiet d e))
        (clearable_count (settle_registers c)) (settle_registers c) after_registers

    pub rerouted_unnamed : (g src : ℕ) → has_same_routes g src o c ≡ true → is_source_named g src o (clear o c).0 ≡ false
    rerouted_unnamed g src calm = grind (arith, same_is_unnamed, around_now, beside_end, nothing_differs)

    pub rerouted_alone : named_by o c ≡ named_where (is_rerouted o c) o c
    rerouted_alone = grind (arith, asked_alone, rerouted_unnamed, not_false)

-- ---- what new routes or RP ranges change

module _ (o c : State) (is : IsRerouted o c) where
  pub around_rerouted : Around o c
  around_rerouted = grind arith

  pub rerouted_beside : Beside o c around_rerouted c
  rerouted_beside = grind arith

pub routes_reroute : (s : State) (w : ℕ) (routes : List Route)
    → IsRerouted s (change s w (Accepted.Routes routes)).state
unfolding change
routes_reroute s w routes = record { only = refl; keys = refl; registers = λ g src calm. refl }

pub routes_reroute_alone : RoutesReroute
unfolding change
routes_reroute_alone s w routes = (routes_reroute s w routes, refl, refl)

pub routes_name : (s : State) → IsQuiet s → (w : ℕ) (routes : List Route)
    → (let c : State = (change s w (Accepted.Routes routes)).state in
    named_by s c ≡ named_where (is_rerouted s c) s c)
routes_name s quiet w routes =
    let c : State = (change s w (Accepted.Routes routes)).state in
    let is : IsRerouted s c = routes_reroute s w routes in
    rerouted_alone s c (around_rerouted s c is) (rerouted_beside s c is) quiet

-- rows that a map leaves where a test of keys passes
module _ {R : Type 0} (f : Key × R → Key × R) (keys : (e : Key × R) → (f e).0 ≡ e.0) where
  same_keys : (t : Table R) → keys_in (map f t) ≡ keys_in t
  unfolding keys_in
  same_keys [] = refl
  same_keys (x ∷ xs) = λ j. keys x j ∷ same_keys xs j

  module _ (test : Key → Bool) (stays : (e : Key × R) → test e.0 ≡ true → f e ≡ e) where
    mapped_step : (x : Key × R) (ys zs : Table R) (b c : Bool) → test x.0 ≡ b → b ≡ c → ys ≡ zs
        → cond b (x ∷ ys) ys ≡ cond c (f x ∷ zs) zs
    mapped_step x ys zs b c e same ih = grind arith

    mapped_elsewhere : (t : Table R) → rows_where test t ≡ rows_where test (map f t)
    unfolding rows_where
    mapped_elsewhere [] = refl
    mapped_elsewhere (x ∷ xs) = grind (arith, mapped_elsewhere xs, mapped_step)

module _ (s : State) (ranges : RpTable) where
  abbrev as_joined : Key × RegisterRow → Key × RegisterRow
  as_joined e =
      cond (same_option (rp_of s (group_in e.0)) (rp_among ranges (group_in e.0))) e
      (e.0, record { state = RegisterState.Join })

  key_stays : (e : Key × RegisterRow) → (as_joined e).0 ≡ e.0
  key_stays e = grind arith

  row_stays : (g src : ℕ) → has_same_routes g src s (rps_replaced s ranges) ≡ true → (e : Key × RegisterRow)
      → is_of_place g src e.0 ≡ true → as_joined e ≡ e
  unfolding has_same_routes has_same_rp rps_replaced rp_of
  row_stays g src calm e here = grind (arith, eqb-true)

pub rps_reroute : (s : State) (w : ℕ) (ranges : RpTable) → IsRerouted s (change s w (Accepted.Rps ranges)).state
unfolding change rps_replaced registers_after_rps rp_of
rps_reroute s w ranges = grind (arith, same_keys, key_stays, mapped_elsewhere, row_stays)

pub rps_reroute_alone : RpsReroute
unfolding change rps_replaced
rps_reroute_alone s w ranges = (rps_reroute s w ranges, refl, refl)

pub rps_name : (s : State) → IsQuiet s → (w : ℕ) (ranges : RpTable)
    → (let c : State = (change s w (Accepted.Rps ranges)).state in
    named_by s c ≡ named_where (is_rerouted s c) s c)
rps_name s quiet w ranges =
    let c : State = (change s w (Accepted.Rps ranges)).state in
    let is : IsRerouted s c = rps_reroute s w ranges in
    rerouted_alone s c (around_rerouted s c is) (rerouted_beside s c is) quiet
