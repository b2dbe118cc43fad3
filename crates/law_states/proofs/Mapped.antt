-- Both moves of a reload by places together: an old place that stays goes where the map says, and the others go past all that
-- stay in the order between.
use Rattle.std.{proofs.{Common.{◌≡◌, ◌≤◌, ◌+◌, ◌||◌, ◌==◌, ◌∙◌, ℕ, zero, suc, Bool, true, false, not, cond, List, [], ◌∷◌, ◌++◌, filter, length, nat_lt, Option, Some, None, is_some, refl, sym, ap, subst, arith, eqb-true}, lemmas.{Bool.{or_right, Decides.nat_tests}, List.Folds.list_any-append}}, specs.{List.{list_any, range_with_len, slice_get}, Option.option_map_or}}
use Rattle.pim_model.{specs.{Cause.number_before, Tables.{below, is_among}}}
use Rattle.law_states.{specs.{PlacedLaws.PlacesGoByTheMap, Placing.{Places, are_once, index_from, index_of, is_kept, is_left_out, kept_places, new_order, number_at, old_order, to_order}}, proofs.{Apart.{first, index_high, second, to_at}, Orders.each_among}}

itself : (s : ℕ) → (s == s + 0) ≡ true
itself s = grind (arith, nat_tests)

plus_none : (a : ℕ) → a ≡ a + 0
plus_none a = omega arith

shift : (s k : ℕ) → (s + 1) + k ≡ s + suc k
shift s k = omega arith

later_other : (s k : ℕ) → (s == s + suc k) ≡ false
later_other s k = grind (arith, nat_tests)

-- where a number stands first, and what stands there in another list
record Stands (x j a : ℕ) (ns js : List ℕ) : Type 0 where
  place : ℕ
  index : index_from a x ns ≡ a + place
  value : slice_get js place ≡ Some j

module _ (p : ℕ → Bool) where
  -- it says which of these places stay, where they are counted from s on
  abbrev Says : ℕ → Places → Type 0
  Says s ms = (k : ℕ) → p (s + k) ≡ is_kept ms k

  says_next : (s : ℕ) (o : Option ℕ) (ms : Places) → Says s (o ∷ ms) → Says (s + 1) ms
  unfolding is_kept
  says_next s o ms says = λ k. ap p (shift s k) ∙ says (suc k)

  says_here : (s : ℕ) (o : Option ℕ) (ms : Places) → Says s (o ∷ ms) → p s ≡ is_some o
  unfolding is_kept
  says_here s o ms says = ap p (plus_none s) ∙ says 0

  -- ---- those that stay

  goes : (ms : Places) (s a k j : ℕ) (other new : List ℕ) → Says s ms → slice_get ms k ≡ Some (Some j)
      → Stands (s + k) j a (filter p (range_with_len s (length ms)) ++ other) (kept_places ms ++ new)
  goes [] s a k j other new says e = cc
  goes (None ∷ ms) s a zero j other new says e = cc
  goes (None ∷ ms) s a (suc k) j other new says e =
      dropped (p s) (says_here s None ms says) (goes ms (s + 1) a k j other new (says_next s None ms says) e)
    where
      F : List ℕ
      F = filter p (range_with_len (s + 1) (length ms))

      dropped : (b : Bool) → b ≡ false → Stands ((s + 1) + k) j a (F ++ other) (kept_places ms ++ new)
          → Stands (s + suc k) j a (cond b (s ∷ F) F ++ other) (kept_places ms ++ new)
      dropped true is r = cc
      dropped false is r = subst (λ (n : ℕ). Stands n j a (F ++ other) (kept_places ms ++ new)) (shift s k) r
  goes (Some x ∷ ms) s a zero j other new says e = here (p s) (says_here s (Some x) ms says)
    where
      F : List ℕ
      F = filter p (range_with_len (s + 1) (length ms))

      same : x ≡ j
      same = cc e

      here : (b : Bool) → b ≡ true → Stands (s + 0) j a (cond b (s ∷ F) F ++ other) (x ∷ (kept_places ms ++ new))
      here true is = record {
        place = 0;
        index = ap (λ (b : Bool). cond b a (index_from (a + 1) (s + 0) (F ++ other))) (itself s) ∙ plus_none a;
        value = ap Some same;
      }
      here false is = cc
  goes (Some x ∷ ms) s a (suc k) j other new says e =
      further (p s) (says_here s (Some x) ms says) (goes ms (s + 1) (a + 1) k j other new (says_next s (Some x) ms says) e)
    where
      F : List ℕ
      F = filter p (range_with_len (s + 1) (length ms))

      further : (b : Bool) → b ≡ true → Stands ((s + 1) + k) j (a + 1) (F ++ other) (kept_places ms ++ new)
          → Stands (s + suc k) j a (cond b (s ∷ F) F ++ other) (x ∷ (kept_places ms ++ new))
      further true is r = record {
        place = suc r.place;
        index = ap (λ (b : Bool). cond b a (index_from (a + 1) (s + suc k) (F ++ other))) (later_other s k)
            ∙ ap (λ (n : ℕ). index_from (a + 1) n (F ++ other)) (sym (shift s k)) ∙ r.index ∙ shift a r.place;
        value = r.value;
      }
      further false is r = cc

  -- ---- those that are left out

  count : (ms : Places) (s : ℕ) → Says s ms → length (filter p (range_with_len s (length ms))) ≡ length (kept_places ms)
  count [] s says = refl
  count (None ∷ ms) s says = by (p s) (says_here s None ms says) (count ms (s + 1) (says_next s None ms says))
    where
      F : List ℕ
      F = filter p (range_with_len (s + 1) (length ms))

      by : (b : Bool) → b ≡ false → length F ≡ length (kept_places ms) → length (cond b (s ∷ F) F) ≡ length (kept_places ms)
      by true is e = cc
      by false is e = e
  count (Some x ∷ ms) s says = by (p s) (says_here s (Some x) ms says) (count ms (s + 1) (says_next s (Some x) ms says))
    where
      F : List ℕ
      F = filter p (range_with_len (s + 1) (length ms))

      by : (b : Bool) → b ≡ true → length F ≡ length (kept_places ms) → length (cond b (s ∷ F) F) ≡ suc (length (kept_places ms))
      by true is e = ap suc e
      by false is e = cc

  none_passing : (i : ℕ) → p i ≡ false → (ns : List ℕ) → list_any (λ x. x == i) (filter p ns) ≡ false
  none_passing i out [] = refl
  none_passing i out (n ∷ ns) = by (p n) refl (none_passing i out ns)
    where
      other : p n ≡ true → (b : Bool) → (n == i) ≡ b → b ≡ false
      other is true e = absurd (cc (sym is ∙ ap p (eqb-true n i e) ∙ out))
      other is false e = refl

      by : (b : Bool) → p n ≡ b → list_any (λ x. x == i) (filter p ns) ≡ false
          → list_any (λ x. x == i) (cond b (n ∷ filter p ns) (filter p ns)) ≡ false
      by true is later =
          ap (λ (b : Bool). b || list_any (λ x. x == i) (filter p ns)) (other is (n == i) refl) ∙ later
      by false is later = later

index_over : (x a : ℕ) (xs ys : List ℕ) → list_any (λ m. m == x) xs ≡ false → list_any (λ m. m == x) ys ≡ true
    → a + length xs ≤ index_from a x (xs ++ ys)
index_over x a [] ys none there = let le : a ≤ index_from a x ys = index_high x a ys there in omega (arith, le)
index_over x a (y ∷ xs) ys none there = by (y == x) none (λ e. index_over x (a + 1) xs ys e there)
  where
    by : (b : Bool) → (b || list_any (λ m. m == x) xs) ≡ false
        → (list_any (λ m. m == x) xs ≡ false → (a + 1) + length xs ≤ index_from (a + 1) x (xs ++ ys))
        → a + suc (length xs) ≤ cond b a (index_from (a + 1) x (xs ++ ys))
    by true e later = cc
    by false e later = let le = later e in omega (arith, le)

-- ---- of a whole map

pub none_got : {X : Type 0} (xs : List X) (i : ℕ) → slice_get xs i ≡ None → nat_lt i (length xs) ≡ false
none_got [] i e = grind (arith, nat_tests)
none_got (x ∷ xs) zero e = cc
none_got (x ∷ xs) (suc i) e = let over = none_got xs i e in grind (arith, nat_tests, over)

pub got_low : {X : Type 0} (xs : List X) (i : ℕ) (x : X) → slice_get xs i ≡ Some x → nat_lt i (length xs) ≡ true
got_low [] i x e = cc
got_low (y ∷ ys) zero x e = grind (arith, nat_tests)
got_low (y ∷ ys) (suc i) x e = let less = got_low ys i x e in grind (arith, nat_tests, less)

module _ (m : Places) where
  from_zero : (k : ℕ) → 0 + k ≡ k
  from_zero k = omega arith

  says : Says (is_kept m) 0 m
  says k = ap (is_kept m) (from_zero k)

  -- the place in the order between
  between : (i : ℕ) (o : Option ℕ) → slice_get m i ≡ Some o → number_at (to_order m) i ≡ index_from 0 (0 + i) (old_order m)
  unfolding index_of
  between i o e =
      to_at m i ∙ ap (λ (b : Bool). cond b (index_from 0 (0 + i) (old_order m)) i) (got_low m i o e)

  pub goes_where_it_says : (i j new : ℕ) → slice_get m i ≡ Some (Some j)
      → number_at (new_order m new) (number_at (to_order m) i) ≡ j
  unfolding number_at old_order new_order
  goes_where_it_says i j new e =
      let r : Stands (0 + i) j 0 (old_order m) (new_order m new) = goes (is_kept m) m 0 0 i j _ _ says e in
      ap (λ (n : ℕ). option_map_or (λ x. x) (slice_get (new_order m new) n) n) (between i (Some j) e ∙ r.index ∙ from_zero r.place)
      ∙ ap (λ (o : Option ℕ). option_map_or (λ x. x) o r.place) r.value

  none_here : (i : ℕ) → slice_get m i ≡ Some None → is_kept m i ≡ false
  unfolding is_kept
  none_here i e = ap (λ (o : Option (Option ℕ)). option_map_or (λ x. is_some x) o false) e

  in_second : (a b : Bool) → a ≡ false → (a || b) ≡ true → b ≡ true
  in_second true b e f = cc
  in_second false b e f = f

  pub left_out_is_past : (i : ℕ) → slice_get m i ≡ Some None → length (kept_places m) ≤ number_at (to_order m) i
  unfolding old_order
  left_out_is_past i e =
      let stay : List ℕ = filter (is_kept m) (below (length m)) in
      let go : List ℕ = filter (is_left_out m) (below (length m)) in
      let none : list_any (λ x. x == i) stay ≡ false = none_passing (is_kept m) i (none_here i e) (below (length m)) in
      let there : list_any (λ x. x == i) go ≡ true =
      in_second (list_any (λ x. x == i) stay) _ none
      (sym (list_any-append (λ x. x == i) stay go) ∙ each_among m i (got_low m i None e)) in
      let le : 0 + length stay ≤ index_from 0 i (stay ++ go) = index_over i 0 stay go none there in
      let all : length stay ≡ length (kept_places m) = count (is_kept m) m 0 says in
      let at : number_at (to_order m) i ≡ index_from 0 i (stay ++ go) =
      between i None e ∙ ap (λ (n : ℕ). index_from 0 n (stay ++ go)) (from_zero i) in
      omega (arith, le, all, at)

  -- an old place that is none of those that are left out
  pub stays_or_past : (i new : ℕ) → nat_lt i (length m) ≡ true → (length (kept_places m) ≤ number_at (to_order m) i → ⊥)
      → slice_get m i ≡ Some (Some (number_at (new_order m new) (number_at (to_order m) i)))
  stays_or_past i new less stays = by (slice_get m i) refl
    where
      by : (o : Option (Option ℕ)) → slice_get m i ≡ o
          → o ≡ Some (Some (number_at (new_order m new) (number_at (to_order m) i)))
      by None e = absurd (cc (sym less ∙ none_got m i e))
      by (Some None) e = absurd (stays (left_out_is_past i e))
      by (Some (Some j)) e = ap (λ (n : ℕ). Some (Some n)) (sym (goes_where_it_says i j new e))

pub places_go_by_the_map : PlacesGoByTheMap
places_go_by_the_map m new = (λ i j e. goes_where_it_says m i j new e, λ i e. left_out_is_past m i e)

-- ---- back again

listed : (ms : Places) (k j : ℕ) → slice_get ms k ≡ Some (Some j) → list_any (λ x. x == j) (kept_places ms) ≡ true
listed [] k j e = cc
listed (None ∷ ms) zero j e = cc
listed (None ∷ ms) (suc k) j e = listed ms k j e
listed (Some x ∷ ms) zero j e =
    let same : x ≡ j = cc e in
    ap (λ (b : Bool). b || list_any (λ y. y == j) (kept_places ms)) (equal x j same)
  where
    equal : (a b : ℕ) → a ≡ b → (a == b) ≡ true
    equal a b f = grind (arith, nat_tests, f)
listed (Some x ∷ ms) (suc k) j e = or_right (x == j) (list_any (λ y. y == j) (kept_places ms)) (listed ms k j e)

before : (ms : Places) (a k j : ℕ) → are_once (kept_places ms) ≡ true → slice_get ms k ≡ Some (Some j)
    → number_before a ms j ≡ Some (a + k)
unfolding is_among
before [] a k j once e = cc
before (None ∷ ms) a zero j once e = cc
before (None ∷ ms) a (suc k) j once e = before ms (a + 1) k j once e ∙ ap Some (shift a k)
before (Some x ∷ ms) a zero j once e =
    let same : x ≡ j = cc e in
    ap (λ (b : Bool). cond b (Some a) (number_before (a + 1) ms j)) (equal x j same) ∙ ap Some (plus_none a)
  where
    equal : (b c : ℕ) → b ≡ c → (b == c) ≡ true
    equal b c f = grind (arith, nat_tests, f)
before (Some x ∷ ms) a (suc k) j once e =
    ap (λ (b : Bool). cond b (Some a) (number_before (a + 1) ms j)) (other (x == j) refl)
    ∙ before ms (a + 1) k j (second (not (list_any (λ y. y == x) (kept_places ms))) _ once) e ∙ ap Some (shift a k)
  where
    other : (b : Bool) → (x == j) ≡ b → b ≡ false
    other true f =
        absurd (cc (sym (first (not (list_any (λ y. y == x) (kept_places ms))) _ once)
        ∙ ap not (ap (λ (n : ℕ). list_any (λ y. y == n) (kept_places ms)) (eqb-true x j f) ∙ listed ms k j e)))
    other false f = refl

pub number_was : (m : Places) (i j : ℕ) → are_once (kept_places m) ≡ true → slice_get m i ≡ Some (Some j)
    → number_before 0 m j ≡ Some i
number_was m i j once e = before m 0 i j once e ∙ ap Some (zero_plus i)
  where
    zero_plus : (k : ℕ) → 0 + k ≡ k
    zero_plus k = omega arith
