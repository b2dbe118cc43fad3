-- What a Hello moves, and a neighbour's end.
use Rattle.std.{proofs.{Common.{◌≡◌, ◌==◌, ◌||◌, ◌+◌, ◌++◌, ℕ, Bool, true, false, not, cond, List, [], ◌∷◌, filter, map, min, Option, Some, None, refl, sym, ap, subst, ◌∙◌, arith}, lemmas.{Bool.{or_left, or_right}, List.Folds.list_any-append}}, specs.{List.{list_all, list_any}, Prelude.if◌then◌else◌}}
use Rattle.pim_types.{specs.{declared.{fact.{AssertRow.AssertRow, InterfaceRow.InterfaceRow, JoinTimerRow.JoinTimerRow, Key.Key, NeighbourRow.NeighbourRow}, path.Path.Path, timer.TimerKind.TimerKind}, Keys.{iface_in, is_on, neighbour_key, source_in}}, proofs.Keys.equal_keys}
use Rattle.pim_wire.{specs.declared.hello.Hello.Hello as HelloValue}
use Rattle.pim_model.{specs.{Firing.fired, Hellos.{hello_holdtime_of, hello_received, hello_triggered, hellos_triggered, is_generation_changed, is_lost_to, neighbour_due, neighbour_replaced, neighbour_restarted, neighbours_replaced, row_of_hello, triggered_hello_delay}, Neighbours.{is_dr, is_neighbour}, Reach.own_firing, State.State, Tables.{Table, delay_in, has_row, keys_in, rows_where, same_bool, set_row}, Timers.Ending, Upstream.fact_keys}}
use Rattle.law_settled.{proofs.{FewerFacts.{IsFewer, fewer_both, fewer_so, no_other, rows_left, table_fewer}, ListLaws.{each_of_all, list_of_each}, Parts.{Asserts, JoinTimers}, RowLaws.has_row_put}}
use Rattle.law_events.{specs.{Locality.{AgreesBut, touching}, Scopes.{only_up, only_winner, reads, scope}, Adjacent.{AdjoinsAlone, AreSourced, dr_keys, end_keeps_dr, has_same_hop, hello_keeps_dr, is_still_neighbour, is_touched_where_hop_differs, keys_of_end, keys_of_hello, keys_of_neighbour, keys_towards, lost_keys, with_neighbour_rows}}, proofs.{LinkKeys.dr_served, OneRow.{SetsOne, dr_kept, same_next_hop}, Towards.{all_taken, all_winners, led_among, lost_among}}}

-- ---- a neighbour's end

-- what is touched by some of the keys is touched by all of them
pub first_among : (xs ys : List Key) (q : Key) → touching xs q ≡ true → touching (xs ++ ys) q ≡ true
unfolding touching
first_among xs ys q e = list_any-append (reads q) xs ys ∙ or_left (list_any (reads q) xs) (list_any (reads q) ys) e

pub second_among : (xs ys : List Key) (q : Key) → touching ys q ≡ true → touching (xs ++ ys) q ≡ true
unfolding touching
second_among xs ys q e = list_any-append (reads q) xs ys ∙ or_right (list_any (reads q) xs) (list_any (reads q) ys) e

pub end_adjoins : (s : State) (e : Ending) → e.timer.kind ≡ TimerKind.Neighbour → AreSourced s
    → AdjoinsAlone (keys_of_end s e.timer.key) s (own_firing s e)
unfolding own_firing fired neighbour_due end_keeps_dr set_row scope fact_keys is_dr keys_of_end
end_adjoins s e is sourced =
    let k : Key = e.timer.key in
    let c : State = (fired (record s { present = e.end }) TimerKind.Neighbour k).0 in
    let sets : SetsOne k s c = record { row = None; neighbours = refl; configured = refl } in
    let towards : List Key = keys_towards s (iface_in k) (source_in k) in
    let kept : Bool = end_keeps_dr s k in
    let keys : List Key = towards ++ dr_keys kept s (iface_in k) in
    let served = dr_served s c k sets keys kept refl (second_among towards (dr_keys kept s (iface_in k))) in
    subst (λ (kind : TimerKind). AdjoinsAlone keys s (fired (record s { present = e.end }) kind k).0) (sym is)
    (record {
      agrees = λ q out. refl;
      serves = served.0;
      linked = served.1;
      sourced = sourced;
      winners = all_winners s c k sets keys
          (λ q e. first_among towards (dr_keys kept s (iface_in k)) q (lost_among s (iface_in k) (source_in k) q e));
      taken = all_taken s c k sets keys
          (λ q e. first_among towards (dr_keys kept s (iface_in k)) q (led_among s (iface_in k) (source_in k) q e));
      facts = λ p there. there;
    })

pub end_dr : (s : State) (e : Ending) → e.timer.kind ≡ TimerKind.Neighbour → end_keeps_dr s e.timer.key ≡ true → (i : ℕ)
    → is_dr s i ≡ is_dr (own_firing s e) i
unfolding own_firing fired neighbour_due end_keeps_dr set_row is_dr
end_dr s e is same i =
    let k : Key = e.timer.key in
    let c : State = (fired (record s { present = e.end }) TimerKind.Neighbour k).0 in
    let sets : SetsOne k s c = record { row = None; neighbours = refl; configured = refl } in
    subst (λ (kind : TimerKind). is_dr s i ≡ is_dr (fired (record s { present = e.end }) kind k).0 i) (sym is)
    (dr_kept s c k sets same i)

-- ---- the interfaces, on which a Hello is owed

module _ (i end : ℕ) where
  abbrev owed : Key × InterfaceRow → Key × InterfaceRow
  owed e = if is_on i e.0 then (e.0, record e.1 { hello_end = min (e.1).hello_end end; is_hello_owed = true }) else e

  owed_step : (e : Key × InterfaceRow) (b : Bool)
      → only_up (if b then (e.0, record e.1 { hello_end = min (e.1).hello_end end; is_hello_owed = true }) else e) ≡ only_up e
  owed_step e b = grind arith

  all_up : (t : Table InterfaceRow) → map only_up (map owed t) ≡ map only_up t
  all_up [] = refl
  all_up (e ∷ t) = λ j. owed_step e (is_on i e.0) j ∷ all_up t j

-- ---- the asserts that were lost to it

module _ (sees : Key → Bool) (lost : Key × AssertRow → Bool) where
  unread_step : (e : Key × AssertRow) (t : Table AssertRow) (b : Bool) → lost e ≡ b
      → list_any sees (map (λ x. x.0) (cond b (e ∷ filter lost t) (filter lost t))) ≡ false
      → (list_any sees (map (λ x. x.0) (filter lost t)) ≡ false
      → filter (λ x. sees x.0) (filter (λ x. not (lost x)) t) ≡ filter (λ x. sees x.0) t)
      → filter (λ x. sees x.0) (cond (not b) (e ∷ filter (λ x. not (lost x)) t) (filter (λ x. not (lost x)) t))
      ≡ cond (sees e.0) (e ∷ filter (λ x. sees x.0) t) (filter (λ x. sees x.0) t)
  unread_step e t b is out rest = grind arith

  unread : (t : Table AssertRow) → list_any sees (map (λ x. x.0) (filter lost t)) ≡ false
      → filter (λ x. sees x.0) (filter (λ x. not (lost x)) t) ≡ filter (λ x. sees x.0) t
  unread [] out = refl
  unread (e ∷ t) out = unread_step e t (lost e) refl out (unread t)

-- ---- no facts come

lowered_keys : (test : Key → Bool) (end : ℕ) (t : Table JoinTimerRow)
    → keys_in (map (λ (e : Key × JoinTimerRow). if test e.0 then (e.0, record { end = min (e.1).end end }) else e) t)
    ≡ keys_in t
unfolding keys_in
lowered_keys test end [] = refl
lowered_keys test end (e ∷ t) = grind (arith, lowered_keys test end t)

triggered : (s : State) (i w : ℕ) (b : Bool) → fact_keys (if b then hello_triggered s i w else s) ≡ fact_keys s
unfolding hello_triggered fact_keys
triggered s i w true = refl
triggered s i w false = refl

replaced : (t : State) (i a : ℕ) (h : HelloValue) → fact_keys (neighbour_replaced t i a h) ≡ fact_keys t
unfolding neighbour_replaced fact_keys
replaced t i a h = refl

restarted : (o t : State) (i a w : ℕ) → IsFewer t (neighbour_restarted o i a w t)
unfolding neighbour_restarted
restarted o t i a w =
    let forgotten : State = record t { asserts = filter (λ e. not (is_lost_to i a e)) t.asserts } in
    fewer_both t forgotten (neighbour_restarted o i a w t)
    (table_fewer Asserts t _ (rows_left (λ e. not (is_lost_to i a e)) t.asserts))
    (table_fewer JoinTimers forgotten _
    (λ p e. sym (ap (λ (ks : List Key). list_any p ks) (lowered_keys _ _ t.join_timers)) ∙ e))

pub hello_leaves_facts : (s : State) (i a w : ℕ) (h : HelloValue) → IsFewer s (hello_received s i a h w)
unfolding hello_received
hello_leaves_facts s i a w h = grind (arith, no_other, replaced, triggered, fewer_so, fewer_both, restarted)

-- ---- a Hello

module _ (s : State) (i a w : ℕ) (h : HelloValue) where
  abbrev changed : Bool
  changed = is_generation_changed s i a h

  -- after whether a Hello is owed and whether the neighbour restarted
  abbrev after : Bool → Bool → State
  after triggers restarts =
      let replaced : State = neighbour_replaced (if triggers then hello_triggered s i w else s) i a h in
      if restarts then neighbour_restarted s i a w replaced else replaced

  neighbours_after : (triggers restarts : Bool)
      → (after triggers restarts).neighbours ≡ set_row s.neighbours (neighbour_key i a) (row_of_hello s.present h)
  unfolding hello_triggered neighbour_replaced neighbours_replaced neighbour_restarted
  neighbours_after triggers restarts = grind arith

  configured_after : (triggers restarts : Bool) → s.configured ≡ (after triggers restarts).configured
  unfolding hello_triggered neighbour_replaced neighbour_restarted
  configured_after triggers restarts = grind arith

  up_so : (end : ℕ) → map only_up (hellos_triggered i end s.interfaces) ≡ map only_up s.interfaces
  unfolding hellos_triggered
  up_so end = all_up i end s.interfaces

  agrees : (triggers restarts : Bool) → AgreesBut (touching (lost_keys s i a)) s (with_neighbour_rows (after triggers restarts) s.neighbours)
  unfolding hello_triggered neighbour_replaced neighbour_restarted scope touching rows_where keys_in
  agrees true true q out = sym (λ j. record (scope (reads q) s) {
    interfaces = up_so (s.present + delay_in 1 triggered_hello_delay w) j;
    asserts = map only_winner (unread (reads q) (is_lost_to i a) s.asserts out j);
  })
  agrees true false q out = grind (arith, up_so)
  agrees false true q out = sym (λ j. record (scope (reads q) s) {
    asserts = map only_winner (unread (reads q) (is_lost_to i a) s.asserts out j);
  })
  agrees false false q out = refl

  ups_after : (triggers restarts : Bool) → map only_up (after triggers restarts).interfaces ≡ map only_up s.interfaces
  unfolding hello_triggered neighbour_replaced neighbour_restarted
  ups_after triggers restarts = grind (arith, up_so)

  pub hello_ups : map only_up (hello_received s i a h w).interfaces ≡ map only_up s.interfaces
  unfolding hello_received
  hello_ups = ups_after (changed || not (is_neighbour s i a)) changed

  dr_there : (triggers restarts : Bool) → is_dr (neighbour_replaced s i a h) i ≡ is_dr (after triggers restarts) i
  unfolding hello_triggered neighbour_replaced neighbour_restarted is_dr
  dr_there triggers restarts = grind arith

  sourced_by : (triggers restarts : Bool) → AreSourced s → AreSourced (after triggers restarts)
  unfolding hello_triggered neighbour_replaced neighbour_restarted
  sourced_by triggers restarts sourced = grind arith

  module _ (triggers restarts : Bool) where
    abbrev c : State
    c = after triggers restarts

    sets : SetsOne (neighbour_key i a) s c
    sets = grind (arith, neighbours_after, configured_after)

    -- where it stays a neighbour all are neighbours as before
    one_more : (b d : Bool) → (b ≡ true → d ≡ true) → (b || d) ≡ d
    one_more b d f = grind arith

    row_stays : (row : NeighbourRow) (n b : ℕ) → is_neighbour s i a ≡ true
        → has_row (set_row s.neighbours (neighbour_key i a) (Some row)) (neighbour_key n b) ≡ is_neighbour s n b
    unfolding set_row
    row_stays row n b known = grind (arith, has_row_put, one_more, equal_keys)

    stays_there : is_neighbour s i a ≡ true → (hello_holdtime_of h == 0) ≡ false → (n b : ℕ)
        → is_neighbour s n b ≡ is_neighbour c n b
    stays_there known lasts n b = grind (arith, neighbours_after, row_stays)

    -- the Hello's keys are those of its neighbour, and those of the DR
    own_among : (q : Key) → touching (keys_of_neighbour s i a h) q ≡ true → touching (keys_of_hello s i a h) q ≡ true
    unfolding keys_of_hello
    own_among = first_among (keys_of_neighbour s i a h) (dr_keys (hello_keeps_dr s i a h) s i)

    dr_among : (q : Key) → touching (dr_keys (hello_keeps_dr s i a h) s i) q ≡ true
        → touching (keys_of_hello s i a h) q ≡ true
    unfolding keys_of_hello
    dr_among = second_among (keys_of_neighbour s i a h) (dr_keys (hello_keeps_dr s i a h) s i)

    keys_touch_lost : (q : Key) → touching (lost_keys s i a) q ≡ true → touching (keys_of_hello s i a h) q ≡ true
    unfolding keys_of_neighbour
    keys_touch_lost q e = grind (arith, own_among, lost_among)

    fewer_touched : (xs ys : List Key) → ((q : Key) → touching xs q ≡ true → touching ys q ≡ true) → (q : Key)
        → touching ys q ≡ false → touching xs q ≡ false
    fewer_touched xs ys more q out = grind arith

    -- with the same next hops all is taken, whatever is touched
    with_hops : ((path : Option Path) → has_same_hop s c path ≡ true) → (keys : List Key)
        → list_all (is_touched_where_hop_differs keys s c) (fact_keys s) ≡ true
    with_hops same keys = grind (arith, list_of_each, each_of_all, or_left)

    taken_by : (still : Bool) → is_still_neighbour s i a h ≡ still
        → list_all (is_touched_where_hop_differs (keys_of_hello s i a h) s c) (fact_keys s) ≡ true
    unfolding keys_of_neighbour
    taken_by true is = grind (arith, with_hops, same_next_hop, stays_there)
    taken_by false isnt =
        all_taken s c (neighbour_key i a) sets (keys_of_hello s i a h)
        (λ q e. own_among q
        (ap (λ (still : Bool). touching (if still then lost_keys s i a else keys_towards s i a) q) isnt
        ∙ led_among s i a q e))

    keeps_as : same_bool (is_dr s i) (is_dr c i) ≡ hello_keeps_dr s i a h
    unfolding hello_keeps_dr
    keeps_as = ap (same_bool (is_dr s i)) (sym (dr_there triggers restarts))

    sourced_after : AreSourced s → AreSourced c
    sourced_after = sourced_by triggers restarts

    adjoins : IsFewer s c → AreSourced s → AdjoinsAlone (keys_of_hello s i a h) s c
    adjoins fewer sourced =
        let served = dr_served s c (neighbour_key i a) sets (keys_of_hello s i a h) (hello_keeps_dr s i a h) keeps_as dr_among in
        record {
          agrees = λ q out. agrees triggers restarts q (fewer_touched _ _ keys_touch_lost q out);
          serves = served.0;
          linked = served.1;
          sourced = sourced_after sourced;
          winners = all_winners s c (neighbour_key i a) sets (keys_of_hello s i a h) keys_touch_lost;
          taken = taken_by (is_still_neighbour s i a h) refl;
          facts = fewer.passed;
        }

  pub hello_adjoins : AreSourced s → AdjoinsAlone (keys_of_hello s i a h) s (hello_received s i a h w)
  unfolding hello_received
  hello_adjoins sourced =
      adjoins (changed || not (is_neighbour s i a)) changed (hello_leaves_facts s i a w h) sourced

  pub hello_dr : hello_keeps_dr s i a h ≡ true → (n : ℕ) → is_dr s n ≡ is_dr (hello_received s i a h w) n
  unfolding hello_received
  hello_dr same =
      let triggers : Bool = changed || not (is_neighbour s i a) in
      dr_kept s (after triggers changed) (neighbour_key i a) (sets triggers changed) (keeps_as triggers changed ∙ same)
