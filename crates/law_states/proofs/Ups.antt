-- Which interfaces are up in a reload by a map of places: those that were, at their places, without those that are left out.
use Rattle.std.{proofs.{Common.{◌≡◌, ◌<◌, ◌≤◌, ⊎_elim, inr, ◌+◌, ◌-◌, ◌||◌, ◌==◌, ◌∙◌, ℕ, get_or, nat_lt, Bool, true, false, cond, List, [], ◌∷◌, length, map, Some, None, Ok, refl, sym, ap, arith, eqb-true, lt-ltb}, lemmas.Bool.{cases_lt, or_right}}, specs.List.{AllByRecursion, list_all, list_any, range_with_len}}
use Rattle.pim_types.{specs.{declared.{config.Config.Config, fact.{InterfaceRow.InterfaceRow, Key.Key}}, Keys.{iface_in, iface_key, same_key}}, proofs.Keys.{equal_keys, same_key_same}}
use Rattle.pim_model.{specs.{Limits.config_test, State.{addressing_of, State, iface_count, is_up}, Step.{ran, rps_replaced}, Tables.{Table, has_row, put, row_at}}}
use Rattle.law_events.{specs.Rest.IsAtRest}
use Rattle.law_settled.{specs.Ready.IsSettled, proofs.{ListLaws.{any_among_all, each_more}, RowLaws.{has_row_any, has_row_put}}}
use Rattle.law_states.{specs.{Reload.config_of, ReloadLaws.AreConfigured, Reloading.{down_event, hellos_anew, replaced, under}, PlacedLaws.PlacedAreConfigured, Placing.{Places, are_once, are_places, gone_on, in_order, placed_key, index_of, kept_places, moved, new_order, number_at, old_order, placed_under, put_placed, reload_by, resubnetted, to_order, without_neighbours}}, proofs.{Removed.{gone_are_down, gone_keeps, settled_up}, Apart.{at_low, count_new, first, low, old_count, second, to_at, value_low}, Moved.{moved_is_under, placed_reload_is_under}, Orders.{all_found, old_low}, PlacedRest.{gone_on_rests, moved_is_at_rest, ordered_setting}}}

-- ---- what a map that has passed its tests is

module _ (old new : ℕ) (m : Places) (e : are_places old new m ≡ true) where
  pub as_many : length m ≡ old
  unfolding are_places
  as_many = eqb-true (length m) old (first (length m == old) _ e)

  pub each_low : list_all (λ j. nat_lt j new) (kept_places m) ≡ true
  unfolding are_places
  each_low = first (list_all (λ j. nat_lt j new) (kept_places m)) _ (second (length m == old) _ e)

  pub each_once : are_once (kept_places m) ≡ true
  unfolding are_places
  each_once = second (list_all (λ j. nat_lt j new) (kept_places m)) _ (second (length m == old) _ e)

  pub few_kept : length (kept_places m) ≤ new
  few_kept = let all = count_new new (kept_places m) each_once each_low in omega (arith, all)

pub no_more_kept : (m : Places) → length (kept_places m) ≤ length m
no_more_kept [] = omega arith
no_more_kept (None ∷ m) = let le = no_more_kept m in omega (arith, le)
no_more_kept (Some j ∷ m) = let le = no_more_kept m in omega (arith, le)

-- ---- one move

-- each row of a table is there under its key
each_there : {R : Type 0} (t : Table R) → AllByRecursion (λ (e : Key × R). list_any (λ (x : Key × R). same_key e.0 x.0) t ≡ true) t
each_there [] = tt
each_there {R} (y ∷ t) = (
  ap (λ (b : Bool). b || list_any (λ (x : Key × R). same_key y.0 x.0) t) (same_key_same y.0),
  each_more (λ (e : Key × R). list_any (λ (x : Key × R). same_key e.0 x.0) t ≡ true)
      (λ (e : Key × R). list_any (λ (x : Key × R). same_key e.0 x.0) (y ∷ t) ≡ true)
      (λ e there. or_right (same_key e.0 y.0) (list_any (λ (x : Key × R). same_key e.0 x.0) t) there) t (each_there t),
)

either_swapped : (a b c : Bool) → ((a || b) || c) ≡ (b || (a || c))
either_swapped true true c = refl
either_swapped true false c = refl
either_swapped false b c = refl

module _ {R : Type 0} (places : List ℕ) (k : Key) where
  found_of : (t rows : Table R)
      → has_row (put_placed places t rows) k ≡ (has_row t k || list_any (λ (e : Key × R). same_key k (placed_key places e.0)) rows)
  found_of t [] = sym (left_alone (has_row t k))
    where
      left_alone : (b : Bool) → (b || false) ≡ b
      left_alone true = refl
      left_alone false = refl
  found_of t (e ∷ rows) =
      found_of (put t (placed_key places e.0) e.1) rows
      ∙ ap (λ (b : Bool). b || list_any (λ (x : Key × R). same_key k (placed_key places x.0)) rows)
      (has_row_put k (placed_key places e.0) e.1 t)
      ∙ either_swapped (same_key k (placed_key places e.0)) (has_row t k) _

-- where an interface that is up was up before
abbrev pub CameFrom : State → List ℕ → ℕ → Type 0
CameFrom s places p = (i : ℕ) × (number_at places i ≡ p) × (is_up s i ≡ true)

module _ (s : State) (places : List ℕ) (p : ℕ) where
  one_came : (k : Key) → list_any (λ (x : Key × InterfaceRow). same_key k x.0) s.interfaces ≡ true
      → same_key (iface_key p) (placed_key places k) ≡ true → CameFrom s places p
  one_came k there same =
      let is : placed_key places k ≡ iface_key p = sym (equal_keys (iface_key p) (placed_key places k) same) in
      let key : iface_key (iface_in k) ≡ k =
      sym (λ j. record { iface = k.iface; group = (is j).group; source = (is j).source; rpt = (is j).rpt }) in
      (iface_in k, ap (λ (q : Key). iface_in q) is, ap (λ (q : Key). has_row s.interfaces q) key ∙ has_row_any k s.interfaces ∙ there)

  none_yet : has_row {R = InterfaceRow} [] (iface_key p) ≡ false
  unfolding has_row row_at
  none_yet = refl

  pub came_from : (c : Config) → is_up (placed_under s places c) p ≡ true → CameFrom s places p
  unfolding placed_under
  came_from c up =
      any_among_all (λ (e : Key × InterfaceRow). list_any (λ (x : Key × InterfaceRow). same_key e.0 x.0) s.interfaces ≡ true)
      (λ (e : Key × InterfaceRow). same_key (iface_key p) (placed_key places e.0)) (λ e there same. one_came e.0 there same)
      s.interfaces (each_there s.interfaces)
      (ap (λ (b : Bool). b || list_any (λ (e : Key × InterfaceRow). same_key (iface_key p) (placed_key places e.0)) s.interfaces)
      (sym none_yet) ∙ sym (found_of places (iface_key p) [] s.interfaces) ∙ up)

pub moved_up : (s : State) (places : List ℕ) (c : Config) (apart : List ℕ) (w p : ℕ)
    → is_up (moved s places c apart w).0 p ≡ is_up (placed_under s places c) p
unfolding moved without_neighbours
moved_up s places c apart w p =
    settled_up (placed_under s places c) (without_neighbours apart (placed_under s places c), []) w p

-- ---- a whole reload

-- the states on its way: after the first move, after those that are left out went down, under the new configuration
module _ (s : State) (m : Places) (c : Config) (w : ℕ) where
  abbrev pub kept : ℕ
  kept = length (kept_places m)

  abbrev pub order : List ℕ
  order = new_order m (length c.interfaces)

  abbrev pub old : Config
  old = in_order (old_order m) (config_of s)

  abbrev pub new : Config
  new = in_order order c

  abbrev pub begun : State
  begun = (moved s (to_order m) old (resubnetted kept old.interfaces new.interfaces) w).0

  abbrev pub gone : State
  gone = (ran begun (map (down_event w) (range_with_len kept (length m - kept)))).1

  abbrev pub renewed : State
  renewed = (replaced gone new w).0

  pub renewed_up : (p : ℕ) → is_up renewed p ≡ is_up gone p
  unfolding replaced under rps_replaced
  renewed_up p = settled_up gone (under gone new, hellos_anew gone (addressing_of new)) w p

  -- they are at rest
  module _ (was : config_test (config_of s) ≡ Ok tt) (settled : IsSettled s) where
    pub begun_rests : IsAtRest begun
    begun_rests =
        moved_is_at_rest s (to_order m) old (resubnetted kept old.interfaces new.interfaces) w
        (ordered_setting (old_order m) (config_of s) was) settled

    pub renewed_rests : config_test c ≡ Ok tt → IsAtRest renewed
    unfolding gone_on
    renewed_rests is = gone_on_rests begun kept (length m) new w (ordered_setting order c is) begun_rests

  module _ (are : are_places (iface_count s) (length c.interfaces) m ≡ true) where
    many : length m ≡ iface_count s
    many = as_many (iface_count s) (length c.interfaces) m are

    pub old_many : length old.interfaces ≡ length m
    unfolding in_order config_of
    old_many =
        all_found s.configured.interfaces (old_order m)
        (ap (λ (n : ℕ). list_all (λ i. nat_lt i n) (old_order m)) (sym many) ∙ old_low m) ∙ old_count m

    pub begun_count : iface_count begun ≡ length m
    unfolding config_of
    begun_count =
        ap (λ (d : Config). length d.interfaces) (moved_is_under s (to_order m) old (resubnetted kept old.interfaces new.interfaces) w)
        ∙ old_many

    pub goes_low : (i : ℕ) → nat_lt i (length m) ≡ true → number_at (to_order m) i < length m
    goes_low i less =
        let is : number_at (to_order m) i ≡ index_of (old_order m) (0 + i) =
        to_at m i ∙ ap (λ (b : Bool). cond b (index_of (old_order m) (0 + i)) i) less in
        let at : index_of (old_order m) (0 + i) < length m = low m i less in
        omega (arith, is, at)

    pub comes_low : (p : ℕ) → p < kept → number_at order p < length c.interfaces
    comes_low p less =
        let few : kept ≤ length c.interfaces = few_kept (iface_count s) (length c.interfaces) m are in
        let once = each_once (iface_count s) (length c.interfaces) m are in
        let all = each_low (iface_count s) (length c.interfaces) m are in
        let here : p < length c.interfaces = omega (arith, few, less) in
        let is : number_at order p ≡ get_or order p 0 = at_low m (length c.interfaces) once all p here in
        let at : get_or order p 0 < length c.interfaces = value_low m (length c.interfaces) once all p here in
        omega (arith, is, at)

    module _ (configured : AreConfigured s) where
      pub up_before : (i : ℕ) → is_up s i ≡ true → nat_lt i (length m) ≡ true
      up_before i up = ap (λ (n : ℕ). nat_lt i n) many ∙ configured i up

      begun_low : (p : ℕ) → is_up begun p ≡ true → p < length m
      begun_low p up =
          let from : CameFrom s (to_order m) p =
          came_from s (to_order m) p old
          (sym (moved_up s (to_order m) old (resubnetted kept old.interfaces new.interfaces) w p) ∙ up) in
          let less : number_at (to_order m) from.0 < length m = goes_low from.0 (up_before from.0 from.2) in
          let is : number_at (to_order m) from.0 ≡ p = from.1 in
          omega (arith, less, is)

      fit : kept + (length m - kept) ≤ iface_count begun
      fit =
          let le : kept ≤ length m = no_more_kept m in
          let count : iface_count begun ≡ length m = begun_count in
          omega (arith, le, count)

      past_all : (p : ℕ) → length m ≤ p → kept + (length m - kept) ≤ p
      past_all p le = let few : kept ≤ length m = no_more_kept m in omega (arith, few, le)

      within_all : (p : ℕ) → p < length m → p < kept + (length m - kept)
      within_all p less = omega (arith, less)

      not_up : (b : Bool) → b ≡ true → b ≡ false → ⊥
      not_up b e f = cc (e, f)

      -- those that are left out are down
      pub gone_low : (p : ℕ) → is_up gone p ≡ true → p < kept
      gone_low p up =
          ⊎_elim (λ (less : p < kept). less)
          (λ (le : kept ≤ p).
          ⊎_elim
          (λ (less : p < length m).
          absurd (not_up (is_up gone p) up
          (gone_are_down w (length m - kept) kept begun fit p le (within_all p less))))
          (λ (past : length m ≤ p).
          let less : p < length m =
          begun_low p (sym (gone_keeps w (length m - kept) kept begun fit p (inr (past_all p past))) ∙ up) in
          absurd (omega (arith, less, past)))
          (cases_lt p (length m)))
          (cases_lt p kept)

      pub renewed_low : (p : ℕ) → is_up renewed p ≡ true → p < kept
      renewed_low p up = gone_low p (sym (renewed_up p) ∙ up)

      last_low : (j : ℕ) → is_up (reload_by s m c w).0 j ≡ true → j < length c.interfaces
      unfolding reload_by gone_on
      last_low j up =
          let from : CameFrom renewed order j =
          came_from renewed order j c (sym (moved_up renewed order c [] w j) ∙ up) in
          let less : number_at order from.0 < length c.interfaces = comes_low from.0 (renewed_low from.0 from.2) in
          let is : number_at order from.0 ≡ j = from.1 in
          omega (arith, less, is)

pub placed_are_configured : PlacedAreConfigured
unfolding config_of
placed_are_configured s m c w are configured j up =
    ap (λ (d : Config). nat_lt j (length d.interfaces)) (placed_reload_is_under s m c w)
    ∙ lt-ltb j (length c.interfaces) (last_low s m c w are configured j up)
