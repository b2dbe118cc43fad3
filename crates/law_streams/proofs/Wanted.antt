-- A Join timer runs only where its key is wanted: what is sent upstream leaves it so.
use Rattle.std.{proofs.{Common.{arith, ◌≡◌, ◌∙◌, ℕ, ◌==◌, ◌&&◌, ◌||◌, Bool, true, false, cond, List, [], ◌∷◌, ◌++◌, ◌⊎◌, Option, Some, None, is_some, refl, sym, ap, subst, eqb-true, eq-eqb}, lemmas.Bool.{or_left, or_right}}, specs.{Cmp.Derive.both_true, List.list_any}}
use Rattle.pim_types.{specs.{Keys.{group_in, is_of_group, is_star, rpt_key, same_key, source_in, source_key, star_key}, declared.fact.{JoinTimerRow.JoinTimerRow, Key.Key}}, proofs.Keys.{equal_keys, same_key_same}}
use Rattle.pim_model.{specs.{Asserts.{assert_forgotten, without_spt_bit}, Clearing.clear, Desires.{join_desired, join_desired_star}, Downstream.is_named, Firing.settled, Messages.Message, Querier.each_in_turn, Registers.settle_registers, State.State, Tables.{Table, has_row, keys_in, set_row}, Upstream.{Cancel, Keep, LowerTo, SetTo, TimerChange, Told, fact_keys, group_upstream, groups_of, moved_join_timer, moved_override_timer, nothing_told, source_told, source_upstream, source_view, sources_of, star_told, star_view, upstream, with_join_timer, with_override_timer}, Writing.write_all}}
use Rattle.law_settled.{proofs.{ListLaws.{any_more, each_both}, Numbers.any_ascending, RowLaws.{has_row_put, has_row_without}, TableLaws.{any_in_filter, any_of_map}, SettlingLaws.kept_by_clearing, TurnLaws.kept_in_turn}}
use Rattle.law_events.{specs.Locality.{AgreesBut, touching}, proofs.{QuietStates.{frame_packets, frame_upstream}, Touches.agrees_then, UntoldKeys.{join_desired_at, join_desired_star_at}}}
use Rattle.law_streams.{specs.Uncounted.is_wanted, proofs.{Counting.{in_keys, own}, Covered.{named_left, named_right}, Keyed.{Under, under_at, under_put}, KeyedEvents.row_under, Repeats.under_more}}

-- ---- keys, and what is wanted

-- the key of a Join timer: of (*,G), or of (S,G), of the whole router
pub data OfTree (k : Key) : Type 0 where
  OfStar : (g : ℕ) → k ≡ star_key 0 g → OfTree k
  OfSource : (g src : ℕ) → k ≡ source_key 0 g src → OfTree k

-- ---- one turn

-- what a machine does with its timer: it is wanted, or the timer goes, or nothing was wanted
abbrev Fairly : State → State → Key → TimerChange → Type 0
Fairly o a k change = (is_wanted a k ≡ true) ⊎ ((change ≡ Cancel) ⊎ ((change ≡ Keep) × (is_wanted o k ≡ false)))

told_fairly : (is was : Bool) (stays joins prunes : Told) → prunes.timer ≡ Cancel
    → (is ≡ true) ⊎ (((cond is (cond was stays joins) (cond was prunes nothing_told)).timer ≡ Cancel)
    ⊎ (((cond is (cond was stays joins) (cond was prunes nothing_told)).timer ≡ Keep) × (was ≡ false)))
told_fairly is was stays joins prunes e = grind arith

star_fairly : (o a : State) (w g : ℕ) → Fairly o a (star_key 0 g) (star_told a w g (star_view o g) (star_view a g)).timer
unfolding star_told star_view
star_fairly o a w g = grind (arith, told_fairly)

source_fairly : (o a : State) (w g src : ℕ)
    → Fairly o a (source_key 0 g src) (source_told a w g src (source_view o g src) (source_view a g src)).timer
unfolding source_told source_view
source_fairly o a w g src = grind (arith, told_fairly)

-- ---- what each turn keeps

-- what each move of a Join timer keeps, of a table
module _ (o a : State) (w : ℕ) (E : Table JoinTimerRow → Type 0)
    (keeps : (t : State) (k : Key) (change : TimerChange) → OfTree k → Fairly o a k change → E t.join_timers
    → E (with_join_timer t k change).join_timers) where
  override_keeps : (t : State) (k : Key) (change : TimerChange) → E t.join_timers → E (with_override_timer t k change).join_timers
  unfolding with_override_timer moved_override_timer
  override_keeps t k change f = grind arith

  source_keeps : (g : ℕ) (t : State) (src : ℕ) → E t.join_timers → E (source_upstream o a w g t src).0.join_timers
  unfolding source_upstream
  source_keeps g t src f =
      override_keeps _ (rpt_key 0 g src) _ (keeps t (source_key 0 g src) _ (OfSource g src refl) (source_fairly o a w g src) f)

  group_keeps : (keys : List Key) (t : State) (g : ℕ) → E t.join_timers → E (group_upstream o a w keys t g).0.join_timers
  unfolding group_upstream
  group_keeps keys t g f =
      kept_in_turn (source_upstream o a w g) (λ u. E u.join_timers) (λ u src h. source_keeps g u src h) (sources_of g keys) _
      (keeps t (star_key 0 g) _ (OfStar g refl) (star_fairly o a w g) f)

  upstream_keeps : E a.join_timers → E (upstream o a w).0.join_timers
  unfolding upstream
  upstream_keeps f =
      kept_in_turn (group_upstream o a w _) (λ u. E u.join_timers) (λ u g h. group_keeps _ u g h) _ a f

-- what one turn of all makes, and all keep
made_in_turn : {S M : Type 0} (change : S → ℕ → S × List M) (R D : S → Type 0) (x : ℕ) → ((s : S) (n : ℕ) → R s → R (change s n).0)
    → ((s : S) (n : ℕ) → D s → D (change s n).0) → ((s : S) → R s → D (change s x).0) → (xs : List ℕ) (s : S) → list_any (λ n. n == x) xs ≡ true
    → R s → D (each_in_turn change s xs).0
unfolding each_in_turn
made_in_turn change R D x keeps stays makes [] s e r = cc
made_in_turn change R D x keeps stays makes (n ∷ ns) s e r =
    go (n == x) refl e (λ f. made_in_turn change R D x keeps stays makes ns (change s n).0 f (keeps s n r))
  where
    go : (b : Bool) → (n == x) ≡ b → (b || list_any (λ m. m == x) ns) ≡ true
        → (list_any (λ m. m == x) ns ≡ true → D (each_in_turn change (change s n).0 ns).0) → D (each_in_turn change (change s n).0 ns).0
    go true here f later =
        kept_in_turn change D stays ns (change s n).0
        (subst (λ (m : ℕ). D (change s m).0) (sym (eqb-true n x here)) (makes s r))
    go false there f later = later f

-- ---- a key

set_there : (q k : Key) (o : Option JoinTimerRow) (t : Table JoinTimerRow) → same_key q k ≡ false → has_row (set_row t k o) q ≡ has_row t q
unfolding set_row
set_there q k o t apart = grind (arith, has_row_without, has_row_put)

moved_there : (q k : Key) (t : State) (change : TimerChange) → same_key q k ≡ false
    → has_row (with_join_timer t k change).join_timers q ≡ has_row t.join_timers q
unfolding with_join_timer moved_join_timer
moved_there q k t change apart = grind (arith, set_there)

module _ (o a : State) (q : Key) where
  -- before its turn the timer runs only where it was wanted or is, after it only where it is
  abbrev Before : Table JoinTimerRow → Type 0
  Before t = has_row t q ≡ true → (is_wanted o q || is_wanted a q) ≡ true

  abbrev After : Table JoinTimerRow → Type 0
  After t = has_row t q ≡ true → is_wanted a q ≡ true

  is_before : (t : Table JoinTimerRow) → After t → Before t
  is_before t f e = or_right (is_wanted o q) (is_wanted a q) (f e)

  cancelled : (t : State) → has_row (with_join_timer t q Cancel).join_timers q ≡ true → ⊥
  unfolding with_join_timer moved_join_timer set_row
  cancelled t e = grind (arith, has_row_without, same_key_same)

  kept_now : (t : State) → (is_wanted o q ≡ false) → Before t.join_timers → has_row (with_join_timer t q Keep).join_timers q ≡ true → is_wanted a q ≡ true
  unfolding with_join_timer
  kept_now t was before e = grind arith

  turn_makes : (t : State) (change : TimerChange) → Fairly o a q change → Before t.join_timers → After (with_join_timer t q change).join_timers
  turn_makes t change fair before = grind (arith, cancelled, kept_now)

  turn_keeps_after : (t : State) (k : Key) (change : TimerChange) → OfTree k → Fairly o a k change → After t.join_timers
      → After (with_join_timer t k change).join_timers
  turn_keeps_after t k change tree fair f = go (same_key q k) refl
    where
      go : (b : Bool) → same_key q k ≡ b → After (with_join_timer t k change).join_timers
      go true same =
          let is : q ≡ k = equal_keys q k same in
          subst (λ (p : Key). After (with_join_timer t p change).join_timers) is
          (turn_makes t change (subst (λ (p : Key). Fairly o a p change) (sym is) fair) (is_before t.join_timers f))
      go false apart = λ e. f (sym (moved_there q k t change apart) ∙ e)

  turn_keeps_before : (t : State) (k : Key) (change : TimerChange) → OfTree k → Fairly o a k change → Before t.join_timers
      → Before (with_join_timer t k change).join_timers
  turn_keeps_before t k change tree fair f = go (same_key q k) refl
    where
      go : (b : Bool) → same_key q k ≡ b → Before (with_join_timer t k change).join_timers
      go true same =
          let is : q ≡ k = equal_keys q k same in
          subst (λ (p : Key). Before (with_join_timer t p change).join_timers) is
          (is_before _ (turn_makes t change (subst (λ (p : Key). Fairly o a p change) (sym is) fair) f))
      go false apart = λ e. f (sym (moved_there q k t change apart) ∙ e)

-- ---- each key has its turn

module _ (q : Key) where
  record Has (keys : List Key) : Type 0 where
    has : is_named keys q ≡ true

  left_has : (xs ys : List Key) → Has xs → Has (xs ++ ys)
  left_has xs ys f = record { has = named_left xs ys q f.has }

  right_has : (xs ys : List Key) → Has ys → Has (xs ++ ys)
  right_has xs ys f = record { has = named_right xs ys q f.has }

  timer_has : (o a : State) → has_row a.join_timers q ≡ true → Has (fact_keys o ++ fact_keys a)
  unfolding fact_keys
  timer_has o a e =
      right_has _ _ (left_has _ _ (left_has _ _ (left_has _ _ (right_has _ _ (record { has = sym (in_keys a.join_timers q) ∙ e })))))

  its_group : (k : Key) → same_key q k ≡ true → (group_in k == group_in q) ≡ true
  its_group k e = eq-eqb (group_in k) (group_in q) (ap (λ (p : Key). group_in p) (sym (equal_keys q k e)))

  group_there : (keys : List Key) → is_named keys q ≡ true → list_any (λ n. n == group_in q) (groups_of keys) ≡ true
  unfolding groups_of is_named
  group_there keys e = grind (arith, any_ascending, any_of_map, any_more, its_group)

  its_source : (src : ℕ) → is_some q.source ≡ true → source_in q ≡ src → (k : Key) → same_key q k ≡ true
      → ((is_of_group (group_in q) k && is_some k.source) && (source_in k == src)) ≡ true
  its_source src some is k e =
      let same : k ≡ q = sym (equal_keys q k e) in
      both_true (both_true (its_group k e) (ap (λ (p : Key). is_some p.source) same ∙ some))
      (eq-eqb (source_in k) src (ap (λ (p : Key). source_in p) same ∙ is))

  source_there : (src : ℕ) (keys : List Key) → is_some q.source ≡ true → source_in q ≡ src → is_named keys q ≡ true
      → list_any (λ n. n == src) (sources_of (group_in q) keys) ≡ true
  unfolding sources_of is_named
  source_there src keys some is e = grind (arith, any_ascending, any_of_map, any_in_filter, any_more, its_source)

module _ (o a : State) (w : ℕ) where
  star_after : (g : ℕ) → has_row a.join_timers (star_key 0 g) ≡ true → Before o a (star_key 0 g) a.join_timers
      → After o a (star_key 0 g) (upstream o a w).0.join_timers
  unfolding upstream group_upstream
  star_after g there before =
      let q : Key = star_key 0 g in
      let keys : List Key = fact_keys o ++ fact_keys a in
      made_in_turn (group_upstream o a w keys) (λ t. Before o a q t.join_timers) (λ t. After o a q t.join_timers) g
      (λ t h f. group_keeps o a w (Before o a q) (turn_keeps_before o a q) keys t h f)
      (λ t h f. group_keeps o a w (After o a q) (turn_keeps_after o a q) keys t h f)
      (λ t f. kept_in_turn (source_upstream o a w g) (λ u. After o a q u.join_timers)
      (λ u src h. source_keeps o a w (After o a q) (turn_keeps_after o a q) g u src h) (sources_of g keys) _
      (turn_makes o a q t _ (star_fairly o a w g) f))
      (groups_of keys) a (group_there q keys (timer_has q o a there).has) before

  source_after : (g src : ℕ) → has_row a.join_timers (source_key 0 g src) ≡ true → Before o a (source_key 0 g src) a.join_timers
      → After o a (source_key 0 g src) (upstream o a w).0.join_timers
  unfolding upstream group_upstream source_upstream
  source_after g src there before =
      let q : Key = source_key 0 g src in
      let keys : List Key = fact_keys o ++ fact_keys a in
      let named : is_named keys q ≡ true = (timer_has q o a there).has in
      made_in_turn (group_upstream o a w keys) (λ t. Before o a q t.join_timers) (λ t. After o a q t.join_timers) g
      (λ t h f. group_keeps o a w (Before o a q) (turn_keeps_before o a q) keys t h f)
      (λ t h f. group_keeps o a w (After o a q) (turn_keeps_after o a q) keys t h f)
      (λ t f. made_in_turn (source_upstream o a w g) (λ u. Before o a q u.join_timers) (λ u. After o a q u.join_timers) src
      (λ u x h. source_keeps o a w (Before o a q) (turn_keeps_before o a q) g u x h)
      (λ u x h. source_keeps o a w (After o a q) (turn_keeps_after o a q) g u x h)
      (λ u h. override_keeps o a w (After o a q) (turn_keeps_after o a q) _ (rpt_key 0 g src) _ (turn_makes o a q u _ (source_fairly o a w g src) h))
      (sources_of g keys) _ (source_there q src keys refl refl named)
      (turn_keeps_before o a q t (star_key 0 g) _ (OfStar g refl) (star_fairly o a w g) f))
      (groups_of keys) a (group_there q keys named) before

  after_all : (q : Key) → OfTree q → Before o a q a.join_timers → After o a q (upstream o a w).0.join_timers
  after_all q tree before = go (has_row a.join_timers q) refl tree
    where
      go : (b : Bool) → has_row a.join_timers q ≡ b → OfTree q → After o a q (upstream o a w).0.join_timers
      go true there (OfStar g is) =
          subst (λ (k : Key). After o a k (upstream o a w).0.join_timers) (sym is)
          (star_after g (ap (has_row a.join_timers) (sym is) ∙ there) (subst (λ (k : Key). Before o a k a.join_timers) is before))
      go true there (OfSource g src is) =
          subst (λ (k : Key). After o a k (upstream o a w).0.join_timers) (sym is)
          (source_after g src (ap (has_row a.join_timers) (sym is) ∙ there) (subst (λ (k : Key). Before o a k a.join_timers) is before))
      go false none tree =
          upstream_keeps o a w (After o a q) (turn_keeps_after o a q) (λ e. cc (e, none))

-- ---- all timers

-- each under a key of its kind that was wanted
abbrev pub Wanted : State → Key → Type 0
Wanted s k = OfTree k × (is_wanted s k ≡ true)

tree_set : (k : Key) (o : Option JoinTimerRow) (t : Table JoinTimerRow) → OfTree k → Under OfTree t → Under OfTree (set_row t k o)
unfolding set_row
tree_set k None t tree f = under_at OfTree k t f
tree_set k (Some r) t tree f = under_put OfTree t k r tree f

tree_kept : (o a t : State) (k : Key) (change : TimerChange) → OfTree k → Fairly o a k change → Under OfTree t.join_timers
    → Under OfTree (with_join_timer t k change).join_timers
unfolding with_join_timer moved_join_timer
tree_kept o a t k Keep tree fair f = f
tree_kept o a t k Cancel tree fair f = tree_set k _ t.join_timers tree f
tree_kept o a t k (SetTo e) tree fair f = tree_set k _ t.join_timers tree f
tree_kept o a t k (LowerTo e) tree fair f = tree_set k _ t.join_timers tree f

told_wanted : (o a : State) (w : ℕ) → Under (Wanted o) a.join_timers → Under (Wanted a) (upstream o a w).0.join_timers
told_wanted o a w f =
    let t : Table JoinTimerRow = (upstream o a w).0.join_timers in
    let trees : Under OfTree t =
    upstream_keeps o a w (Under OfTree) (tree_kept o a) (under_more (Wanted o) OfTree (λ k h. h.0) a.join_timers f) in
    each_both (λ e. OfTree e.0) (λ e. is_named (keys_in t) e.0 ≡ true) (λ e. Wanted a e.0)
    (λ e tree here. (tree, after_all o a w e.0 tree (λ there. or_left _ _ (row_under (Wanted o) a.join_timers e.0 there f).1) (in_keys t e.0 ∙ here)))
    t trees (own t)

-- ---- what reads no timer

wants_same : (s t : State) → AgreesBut (touching []) s t → (k : Key) → is_wanted t k ≡ is_wanted s k
unfolding touching
wants_same s t agrees k =
    λ j. cond (is_star k) (star_same (group_in k) j) (source_same (group_in k) (source_in k) j)
  where
    star_same : (g : ℕ) → join_desired_star t g ≡ join_desired_star s g
    star_same g =
        sym (join_desired_star_at g t)
        ∙ (ap (λ (u : State). join_desired_star u g) (sym (agrees (star_key 0 g) refl)) ∙ join_desired_star_at g s)

    source_same : (g src : ℕ) → join_desired t g src ≡ join_desired s g src
    source_same g src =
        sym (join_desired_at g t src)
        ∙ (ap (λ (u : State). join_desired u g src) (sym (agrees (source_key 0 g src) refl)) ∙ join_desired_at g s src)

pub still_wanted : {R : Type 0} (s t : State) → AgreesBut (touching []) s t → (rows : Table R) → Under (Wanted s) rows → Under (Wanted t) rows
still_wanted s t agrees rows f = under_more (Wanted s) (Wanted t) (λ k h. (h.0, wants_same s t agrees k ∙ h.1)) rows f

-- ---- all that follows

clear_joins : (o s : State) → (clear o s).0.join_timers ≡ s.join_timers
unfolding settle_registers assert_forgotten without_spt_bit
clear_joins o s = kept_by_clearing (λ t. t.join_timers ≡ s.join_timers) (λ t k f. f) (λ t k f. f) o s refl

pub settled_wanted : (o : State) (c : State × List Message) (w : ℕ) → Under (Wanted o) (c.0).join_timers
    → Under (Wanted (settled o c w).0) (settled o c w).0.join_timers
unfolding settled write_all
settled_wanted o c w f =
    grind (arith, still_wanted, agrees_then, frame_upstream, frame_packets, told_wanted, clear_joins)
