-- An interface that goes up, or down with nothing on it, moves nothing where nothing with facts may be routed over it.
use Rattle.std.{proofs.{Common.{◌≡◌, ◌==◌, ◌&&◌, ◌||◌, ◌++◌, ℕ, Bool, true, false, not, cond, List, [], ◌∷◌, length, Option, Some, None, is_none, is_some, option_and_then, refl, sym, ap, ◌∙◌, eq-eqb, eqb-true, arith}, lemmas.Bool.false_from_ne_true}, specs.{Cmp.Derive.both_true, List.{find, list_all, list_any}, Option.option_map_or, Prelude.{slice_get}}}
use Rattle.pim_ip.{specs.{Prefixes.{contains, longest_match}, declared.addr.Addr.Addr}}
use Rattle.pim_types.{specs.{declared.{config.{Route.Route, RpTable.RpTable}, fact.{InterfaceRow.InterfaceRow, Key.Key}}, Keys.{iface_in, iface_key, is_on, same_key, source_in}}, proofs.Keys.equal_keys}
use Rattle.pim_model.{specs.{declared.accepted.Accepted.Accepted, Querier.{querier_up, querying}, Rows.{same_both, same_path}, State.{Addressing, State}, Step.{change, iface_down, iface_up}, Tables.{Table, below, drop_where, has_row, keys_in}, Unicast.{any_rp, is_on_link_among, link_among, path_if_up, route, route_among, route_path, routed_among, rp_among, rp_of, rp_route, subnet}, Upstream.fact_keys}}
use Rattle.law_settled.{proofs.RowLaws.{has_row_dropped, has_row_put}}
use Rattle.law_events.{specs.{Moved.{IsRerouted, MovesAlone, is_touched_where_rerouted}, Named.{has_same_routes, has_same_rp}, Switched.{DownMovesNone, UpMovesNone, has_any_on, is_in_subnet, may_lead_over}}, proofs.{Nowhere.{longest_fails, neither_first, neither_second, rp_fails}, Sights.{options_same, paths_same}}}

-- ---- routes where one interface is up in only one of two tables

-- the tables have the same rows but of this interface
abbrev UpAlike : ℕ → Table InterfaceRow → Table InterfaceRow → Type 0
UpAlike i t u = (j : ℕ) → (j == i) ≡ false → has_row t (iface_key j) ≡ has_row u (iface_key j)

module _ (configured : Addressing) (routes : List Route) (i address : ℕ) (t u : Table InterfaceRow) (alike : UpAlike i t u)
  where
    abbrev is_near : ℕ → Bool
    is_near j = option_map_or (λ c. contains (subnet c) address) (slice_get configured.interfaces j) false

    near_step : (j : ℕ) (b : Bool) → (j == i) ≡ b → is_near i ≡ false
        → (has_row t (iface_key j) && is_near j) ≡ (has_row u (iface_key j) && is_near j)
    near_step j true e far = grind (arith, eqb-true)
    near_step j false e far = ap (λ b. b && is_near j) (alike j e)

    link_stays : is_near i ≡ false → link_among configured t address ≡ link_among configured u address
    unfolding link_among is_on_link_among
    link_stays far = λ k. find (λ j. near_step j (j == i) refl far k) (below (length configured.interfaces))

    path_stays : (r : Route) → (r.iface.number == i) ≡ false → path_if_up t (route_path r) ≡ path_if_up u (route_path r)
    path_stays r e = grind (arith, alike)

    routed_step : (o : Option Route) → option_map_or (λ (r : Route). r.iface.number == i) o false ≡ false
        → option_and_then (λ r. path_if_up t (route_path r)) o ≡ option_and_then (λ r. path_if_up u (route_path r)) o
    routed_step None e = refl
    routed_step (Some r) e = path_stays r e

    routed_stays : option_map_or (λ (r : Route). r.iface.number == i) (longest_match (λ (r : Route). r.prefix) routes address)
        false ≡ false
        → routed_among t routes address ≡ routed_among u routes address
    unfolding routed_among
    routed_stays e = routed_step (longest_match (λ (r : Route). r.prefix) routes address) e

    pub route_stays : is_near i ≡ false
        → option_map_or (λ (r : Route). r.iface.number == i) (longest_match (λ (r : Route). r.prefix) routes address) false ≡ false
        → route_among configured t routes address ≡ route_among configured u routes address
    unfolding route_among
    route_stays far other = grind (arith, link_stays, routed_stays)

-- ---- what has facts

module _ (i : ℕ) (o c : State) (configured : o.configured ≡ c.configured) (routes : o.routes ≡ c.routes)
    (ranges : o.ranges ≡ c.ranges) (alike : UpAlike i o.interfaces c.interfaces) (none : may_lead_over o i ≡ false) where
  no_route : list_any (λ (r : Route). r.iface.number == i) o.routes ≡ false
  unfolding may_lead_over
  no_route = neither_first _ _ (neither_first _ _ none)

  no_rp : any_rp (is_in_subnet o i) o.ranges ≡ false
  unfolding may_lead_over
  no_rp = neither_second _ _ (neither_first _ _ none)

  no_source : list_any (λ k. is_some k.source && is_in_subnet o i (source_in k)) (fact_keys o) ≡ false
  unfolding may_lead_over
  no_source = neither_second _ _ none

  same_route : (address : ℕ) → is_in_subnet o i address ≡ false → route o address ≡ route c address
  unfolding route
  same_route address far =
      route_stays o.configured o.routes i address o.interfaces c.interfaces alike far
      (longest_fails (λ (r : Route). r.prefix) (λ (r : Route). r.iface.number == i) address o.routes no_route)
      ∙ (λ j. route_among (configured j) c.interfaces (routes j) address)

  rp_route_so : (rp : Option ℕ) → option_map_or (is_in_subnet o i) rp false ≡ false
      → option_and_then (route o) rp ≡ option_and_then (route c) rp
  rp_route_so None e = refl
  rp_route_so (Some rp) e = same_route rp e

  same_rp_route : (g : ℕ) → rp_route o g ≡ rp_route c g
  unfolding rp_route rp_of
  same_rp_route g =
      rp_route_so (rp_among o.ranges g) (rp_fails (is_in_subnet o i) g o.ranges no_rp)
      ∙ ap (λ (rs : RpTable). option_and_then (route c) (rp_among rs g)) ranges

  same_rp : (g : ℕ) → has_same_rp g o c ≡ true
  unfolding has_same_rp rp_of
  same_rp g =
      both_true
      (options_same (rp_among o.ranges g) (rp_among c.ranges g) (ap (λ (rs : RpTable). rp_among rs g) ranges))
      (paths_same (rp_route o g) (rp_route c g) (same_rp_route g))

  calm_source : (k : Key) → (is_some k.source && is_in_subnet o i (source_in k)) ≡ false → (o2 : Option Addr)
      → k.source ≡ o2 → (is_none o2 || same_both same_path (route o (source_in k)) (route c (source_in k))) ≡ true
  calm_source k e None is = refl
  calm_source k e (Some a) is =
      paths_same (route o (source_in k)) (route c (source_in k))
      (same_route (source_in k) (sym (ap (λ (s : Option Addr). is_some s && is_in_subnet o i (source_in k)) is) ∙ e))

  one_taken : (k : Key) → (is_some k.source && is_in_subnet o i (source_in k)) ≡ false
      → is_touched_where_rerouted [] o c k ≡ true
  unfolding has_same_routes
  one_taken k e = grind (arith, same_rp, calm_source k e k.source refl)

  all_taken : (keys : List Key) → list_any (λ k. is_some k.source && is_in_subnet o i (source_in k)) keys ≡ false
      → list_all (is_touched_where_rerouted [] o c) keys ≡ true
  all_taken [] e = refl
  all_taken (k ∷ keys) e = both_true (one_taken k (neither_first _ _ e)) (all_taken keys (neither_second _ _ e))

  pub switch_moves : IsRerouted o c → MovesAlone [] o c
  switch_moves is = record { rerouted = is; taken = all_taken (fact_keys o) no_source }

-- ---- an interface goes up

other_row : (i j : ℕ) → (j == i) ≡ false → same_key (iface_key j) (iface_key i) ≡ false
other_row i j e =
    false_from_ne_true (same_key (iface_key j) (iface_key i))
    (λ same. let no : true ≡ false = sym (eq-eqb j i (ap iface_in (equal_keys (iface_key j) (iface_key i) same))) ∙ e in cc)

pub up_moves_none : UpMovesNone
unfolding change iface_up querier_up querying
up_moves_none s w i none =
    let c : State = (change s w (Accepted.Up i)).state in
    switch_moves i.number s c refl refl refl
    (λ j e. sym (has_row_put (iface_key j) (iface_key i.number) _ s.interfaces
    ∙ ap (λ b. b || has_row s.interfaces (iface_key j)) (other_row i.number j e)))
    none
    (record { only = refl; keys = refl; registers = λ g src calm. refl })

-- ---- an interface goes down

module _ {R : Type 0} (i : ℕ) where
  kept_step : (x : Key × R) (xs ys : Table R) (b : Bool) → is_on i x.0 ≡ b → (b || list_any (is_on i) (keys_in xs)) ≡ false
      → (list_any (is_on i) (keys_in xs) ≡ false → ys ≡ xs) → cond (not b) (x ∷ ys) ys ≡ x ∷ xs
  kept_step x xs ys b e none ih = grind arith

  all_kept : (t : Table R) → list_any (is_on i) (keys_in t) ≡ false → drop_where (is_on i) t ≡ t
  unfolding drop_where keys_in
  all_kept [] none = refl
  all_kept (x ∷ xs) none = kept_step x xs (drop_where (is_on i) xs) (is_on i x.0) refl none (all_kept xs)

any_split : (i : ℕ) (xs ys : List Key) → list_any (is_on i) (xs ++ ys) ≡ false
    → (list_any (is_on i) xs ≡ false) × (list_any (is_on i) ys ≡ false)
any_split i [] ys e = (refl, e)
any_split i (x ∷ xs) ys e = grind (arith, any_split i xs ys, neither_first, neither_second)

pub down_moves_none : DownMovesNone
unfolding change iface_down has_any_on
down_moves_none s w i none =
    let empty : has_any_on s i.number ≡ false = neither_first _ (may_lead_over s i.number) none in
    let n : ℕ = i.number in
    let c : State = (change s w (Accepted.Down i)).state in
    let e1 = any_split n _ (keys_in s.asserts) empty in
    let e2 = any_split n _ (keys_in s.downstream) e1.0 in
    let e3 = any_split n _ (keys_in s.sendings) e2.0 in
    let e4 = any_split n _ (keys_in s.source_repeats) e3.0 in
    let e5 = any_split n _ (keys_in s.group_repeats) e4.0 in
    let e6 = any_split n _ (keys_in s.source_records) e5.0 in
    let e7 = any_split n (keys_in s.neighbours) (keys_in s.group_records) e6.0 in
    switch_moves n s c refl refl refl
    (λ j e. sym (has_row_dropped (iface_key j) (is_on n) s.interfaces
    ∙ ap (λ b. not b && has_row s.interfaces (iface_key j)) e))
    (neither_second (has_any_on s i.number) _ none)
    (record {
      only = λ j. record s {
        interfaces = drop_where (is_on n) s.interfaces;
        queriers = drop_where (is_on n) s.queriers;
        neighbours = all_kept n s.neighbours e7.0 j;
        group_records = all_kept n s.group_records e7.1 j;
        source_records = all_kept n s.source_records e6.1 j;
        group_repeats = all_kept n s.group_repeats e5.1 j;
        source_repeats = all_kept n s.source_repeats e4.1 j;
        sendings = all_kept n s.sendings e3.1 j;
        downstream = all_kept n s.downstream e2.1 j;
        asserts = all_kept n s.asserts e1.1 j;
      };
      keys = refl;
      registers = λ g src calm. refl;
    })
