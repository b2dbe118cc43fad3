-- Rows changed under one key after the other, and all at once, by a change that made twice is made once.
use Rattle.std.{proofs.{Common.{◌≡◌, ◌≤◌, ℕ, Bool, true, false, List, [], ◌∷◌, ◌&&◌, ◌||◌, Option, Some, refl, ap, sym, ◌∙◌, cond, filter, map, add-one, ◌<◌, ◌+◌, length, drop, get_or, arith}, lemmas.Bool.or_right, Math.{ListN.drop_of_length-le, Seq.drop-cons}}, specs.{Cmp.{Derive.both_true, first_so, second_so}, Prelude.if◌then◌else◌, List.{list_all, list_any}}}
use Rattle.pim_types.{specs.{declared.fact.Key.Key, Keys.same_key}, proofs.Keys.{equal_keys, same_key_same}}
use Rattle.pim_model.{specs.Tables.{Table, change_row, changed_entry, keys_in}}
use Rattle.law_settled.{specs.Rows.all_changed, proofs.TableLaws.any_in_filter}

-- ---- which keys a test chooses

and_false : (a b : Bool) → (a && false) ≡ (b && false)
and_false a b = grind arith

none_of : {X : Type 0} (xs : List X) → list_any (λ x. false) xs ≡ false
none_of [] = refl
none_of (x ∷ xs) = none_of xs

taken_out : {X : Type 0} (c : Bool) (p : X → Bool) (xs : List X) → list_any (λ x. c && p x) xs ≡ (c && list_any p xs)
taken_out true p xs = refl
taken_out false p xs = none_of xs

and_true : (a b : Bool) → b ≡ true → (a && b) ≡ a
and_true a b h = grind arith

module _ (test : Key → Bool) where
  same_tested : (k q : Key) (b : Bool) → same_key k q ≡ b → (test k && b) ≡ (test q && b)
  same_tested k q b h = grind (arith, equal_keys, and_false)

  chosen : (q : Key) (ks : List Key)
      → list_any (λ k. same_key k q) (filter test ks) ≡ (test q && list_any (λ k. same_key k q) ks)
  chosen q ks =
      any_in_filter test (λ k. same_key k q) ks
      ∙ ap (λ (p : Key → Bool). list_any p ks) (λ j k. same_tested k q (same_key k q) refl j)
      ∙ taken_out (test q) (λ k. same_key k q) ks

module _ {R : Type 0} where
  -- each key of a table is among its keys
  abbrev are_among : List Key → Table R → Bool
  are_among ks xs = list_all (λ e. list_any (λ q. same_key q e.0) ks) xs

  among_more : (k : Key) (ks : List Key) (xs : Table R) → are_among ks xs ≡ true → are_among (k ∷ ks) xs ≡ true
  among_more k ks [] all = refl
  among_more k ks (e ∷ xs) all =
      both_true
      (or_right (same_key k e.0) (list_any (λ q. same_key q e.0) ks)
      (first_so (list_any (λ q. same_key q e.0) ks) _ all))
      (among_more k ks xs (second_so (list_any (λ q. same_key q e.0) ks) _ all))

  all_among : (t : Table R) → are_among (keys_in t) t ≡ true
  unfolding keys_in
  all_among [] = refl
  all_among (e ∷ t) = grind (arith, all_among t, same_key_same, among_more)

-- the keys of the rows whose key passes
keys_step : {R : Type 0} (e : Key × R) (t : Table R) (b : Bool)
    → keys_in (cond b (e ∷ t) t) ≡ cond b (e.0 ∷ keys_in t) (keys_in t)
unfolding keys_in
keys_step e t b = grind arith

pub keys_of_passing : {R : Type 0} (test : Key → Bool) (t : Table R)
    → keys_in (filter (λ e. test e.0) t) ≡ filter test (keys_in t)
unfolding keys_in
keys_of_passing test [] = refl
keys_of_passing test (e ∷ t) = grind (arith, keys_of_passing test t, keys_step)

-- ---- the change

module _ {R : Type 0} (f : R → R) (twice : (r : R) → f (f r) ≡ f r) where
  abbrev change : R → Option R
  change r = Some (f r)

  made : Key × R → Key × R
  made e = (e.0, f e.1)

  made_twice : (e : Key × R) → made (made e) ≡ made e
  unfolding made
  made_twice e = ap (λ (r : R). let x : Key × R = (e.0, r) in x) (twice e.1)

  -- made where the test holds
  abbrev made_if : Bool → Key × R → Key × R
  made_if true e = made e
  made_if false e = e

  made_is : (b : Bool) (e : Key × R) → made_if b e ≡ (if b then (e.0, f e.1) else e)
  unfolding made
  made_is b e = grind arith

  entry_changed : (k : Key) (e : Key × R) (b : Bool) → same_key k e.0 ≡ b
      → changed_entry change k e ≡ Some (made_if b e)
  unfolding changed_entry made
  entry_changed k e b h = grind arith

  abbrev one : Key → Key × R → Key × R
  one k e = made_if (same_key k e.0) e

  one_changed : (k : Key) (t : Table R) → change_row change k t ≡ map (one k) t
  unfolding change_row
  one_changed k [] = refl
  one_changed k (e ∷ t) = grind (arith, one_changed k t, entry_changed)

  pub changed_is_mapped : (k : Key) (t : Table R)
      → change_row change k t ≡ map (λ e. if same_key k e.0 then (e.0, f e.1) else e) t
  changed_is_mapped k t = grind (arith, one_changed, made_is)

  abbrev is_hit : List Key → Key × R → Bool
  is_hit ks e = list_any (λ k. same_key k e.0) ks

  hit : List Key → Key × R → Key × R
  hit ks e = made_if (is_hit ks e) e

  hit_made : (ks : List Key) (e : Key × R) (b : Bool) → is_hit ks e ≡ b → hit ks (made e) ≡ made e
  unfolding hit made
  hit_made ks e b h = grind (arith, made_twice)

  hit_next_by : (k : Key) (ks : List Key) (e : Key × R) (b : Bool) → same_key k e.0 ≡ b
      → hit ks (made_if b e) ≡ made_if (b || is_hit ks e) e
  unfolding hit
  hit_next_by k ks e b h = grind (arith, hit_made)

  hit_next : (k : Key) (ks : List Key) (e : Key × R) → hit ks (one k e) ≡ hit (k ∷ ks) e
  unfolding hit
  hit_next k ks e = hit_next_by k ks e (same_key k e.0) refl

  map_same : (t : Table R) → map (hit []) t ≡ t
  unfolding hit
  map_same [] = refl
  map_same (e ∷ t) = ap (λ (u : Table R). e ∷ u) (map_same t)

  map_next : (k : Key) (ks : List Key) (t : Table R) → map (hit ks) (map (one k) t) ≡ map (hit (k ∷ ks)) t
  map_next k ks [] = refl
  map_next k ks (e ∷ t) = grind (arith, map_next k ks t, hit, hit_next)

  all_hit : (ks : List Key) (t : Table R) → all_changed change t ks ≡ map (hit ks) t
  unfolding all_changed
  all_hit [] t = sym (map_same t)
  all_hit (k ∷ ks) t =
      ap (λ (u : Table R). all_changed change u ks) (one_changed k t) ∙ all_hit ks (map (one k) t)
      ∙ map_next k ks t

  module _ (test : Key → Bool) where
    tested_by : (ks : List Key) (xs : Table R) → are_among ks xs ≡ true
        → map (hit (filter test ks)) xs ≡ map (λ e. made_if (test e.0) e) xs
    unfolding hit
    tested_by ks [] all = refl
    tested_by ks (e ∷ xs) all =
        ap (λ (b : Bool). made_if b e ∷ map (hit (filter test ks)) xs)
        (chosen test e.0 ks ∙ and_true (test e.0) (list_any (λ q. same_key q e.0) ks)
        (first_so (list_any (λ q. same_key q e.0) ks) _ all))
        ∙ ap (λ (u : Table R). made_if (test e.0) e ∷ u)
        (tested_by ks xs (second_so (list_any (λ q. same_key q e.0) ks) _ all))

    -- under the keys that the test chooses, one after the other, is where the test holds
    pub chosen_changed : (t : Table R)
        → all_changed change t (filter test (keys_in t)) ≡ map (λ e. if test e.0 then (e.0, f e.1) else e) t
    chosen_changed t = grind (arith, all_hit, tested_by, all_among, made_is)

-- ---- key after key

module _ {R : Type 0} (change : R → Option R) where
  pub one_more_changed : (keys : List Key) (i : ℕ) (k : Key) (t : Table R) → i < length keys
      → all_changed change (change_row change (get_or keys i k) t) (drop (i + 1) keys)
      ≡ all_changed change t (drop i keys)
  unfolding all_changed
  one_more_changed keys i k t lt = grind (arith, drop-cons, add-one)

  pub none_left_changed : (keys : List Key) (i : ℕ) (t : Table R) → length keys ≤ i
      → all_changed change t (drop i keys) ≡ t
  unfolding all_changed
  none_left_changed keys i t le = ap (λ (ks : List Key). all_changed change t ks) (drop_of_length-le keys le)
