-- Rows that pass a test, taken out of a table key by key.
use Rattle.std.{proofs.{Common.{◌≡◌, ℕ, ◌+◌, ◌<◌, ◌≤◌, Bool, true, false, cond, not, ◌&&◌, ◌||◌, List, [], ◌∷◌, length, drop, get_or, add-one, drop-cons, Option, Some, refl, sym, ap, subst, ◌∙◌}, lemmas.List.{drop_all, Elements.filter_agree}}, specs.List.{AllByRecursion, filter, list_any, Sorted.IsStrictlySortedBy}}
use Rattle.pim_types.{specs.{declared.fact.Key.Key, Keys.{key_cmp, same_key}}, proofs.Keys.equal_keys}
use Rattle.pim_model.{specs.Tables.{Table, drop_at, drop_where, keys_in, row_at}}
use Rattle.pim_tables.{proofs.{Firsts.all_found, Lookups.same_key_symm}}

-- ---- filters

module _ {X : Type 0} (P : X → Type 0) (p q : X → Bool) (agree : (x : X) → P x → p x ≡ q x) where
  agree_step : (x : X) (xs : List X) (b : Bool) → p x ≡ b → q x ≡ b → filter p xs ≡ filter q xs
      → filter p (x ∷ xs) ≡ filter q (x ∷ xs)
  agree_step x xs true e f rest = rw (e, f) (ap (λ ys. x ∷ ys) rest)
  agree_step x xs false e f rest = rw (e, f) rest

  agree_on : (xs : List X) → AllByRecursion P xs → filter p xs ≡ filter q xs
  agree_on [] all = refl
  agree_on (x ∷ xs) all = agree_step x xs (q x) (agree x all.0) refl (agree_on xs all.1)

module _ {X : Type 0} (p q : X → Bool) where
  abbrev both : X → Bool
  both x = p x && q x

  twice_step : (x : X) (xs : List X) (b : Bool) → filter q (filter p xs) ≡ filter both xs
      → filter q (cond b (x ∷ filter p xs) (filter p xs)) ≡ cond (b && q x) (x ∷ filter both xs) (filter both xs)
  twice_step x xs true rest = ap (λ ys. cond (q x) (x ∷ ys) ys) rest
  twice_step x xs false rest = rest

  filter_twice : (xs : List X) → filter q (filter p xs) ≡ filter both xs
  filter_twice [] = refl
  filter_twice (x ∷ xs) = twice_step x xs (p x) (filter_twice xs)

all_kept : {X : Type 0} (xs : List X) → filter (λ x. true) xs ≡ xs
all_kept [] = refl
all_kept (x ∷ xs) = ap (λ ys. x ∷ ys) (all_kept xs)

-- ---- rows

module _ {R : Type 0} (lost : Option R → Bool) where
  -- the rows that stay, where those that pass go under these keys
  abbrev pub staying : List Key → Table R → Table R
  staying keys t = filter (λ e. not (lost (Some e.1) && list_any (same_key e.0) keys)) t

  module _ (k : Key) where
    abbrev pub without_loss : Table R → Table R
    without_loss t = filter (λ e. not (lost (Some e.1) && same_key e.0 k)) t

    module _ (t : Table R) (sorted : IsStrictlySortedBy key_cmp (keys_in t)) where
      abbrev IsFound : Key × R → Type 0
      IsFound e = row_at t e.0 ≡ Some e.1

      under : (e : Key × R) → IsFound e → same_key e.0 k ≡ true → row_at t k ≡ Some e.1
      under e found same = subst (λ (q : Key). row_at t q ≡ Some e.1) (equal_keys e.0 k same) found

      goes : (e : Key × R) (l s : Bool) → same_key e.0 k ≡ s → (s ≡ true → l ≡ true)
          → not (same_key k e.0) ≡ not (l && s)
      goes e l true same is = ap not (same_key_symm k e.0 ∙ same) ∙ rw (is refl) refl
      goes e true false same is = ap not (same_key_symm k e.0 ∙ same)
      goes e false false same is = ap not (same_key_symm k e.0 ∙ same)

      stays : (l s : Bool) → (s ≡ true → l ≡ false) → true ≡ not (l && s)
      stays true true is = cc (is refl)
      stays true false is = refl
      stays false s is = refl

      as_found : (b : Bool) → lost (row_at t k) ≡ b → (e : Key × R) → IsFound e → same_key e.0 k ≡ true
          → lost (Some e.1) ≡ b
      as_found b is e found same = ap lost (sym (under e found same)) ∙ is

      pub loss_dropped : lost (row_at t k) ≡ true → drop_at t k ≡ without_loss t
      unfolding drop_at drop_where
      loss_dropped is =
          agree_on IsFound (λ e. not (same_key k e.0)) (λ e. not (lost (Some e.1) && same_key e.0 k))
          (λ e found. goes e (lost (Some e.1)) (same_key e.0 k) refl (as_found true is e found)) t
          (all_found t sorted)

      pub none_lost : lost (row_at t k) ≡ false → t ≡ without_loss t
      none_lost is =
          sym (all_kept t)
          ∙ agree_on IsFound (λ e. true) (λ e. not (lost (Some e.1) && same_key e.0 k))
          (λ e found. stays (lost (Some e.1)) (same_key e.0 k) (as_found false is e found)) t (all_found t sorted)

  either_goes : (l s n : Bool) → (not (l && s) && not (l && n)) ≡ not (l && (s || n))
  either_goes true true n = refl
  either_goes true false n = refl
  either_goes false s n = refl

  pub staying_after : (k : Key) (keys : List Key) (t : Table R)
      → staying keys (without_loss k t) ≡ staying (k ∷ keys) t
  staying_after k keys t =
      filter_twice (λ e. not (lost (Some e.1) && same_key e.0 k))
      (λ e. not (lost (Some e.1) && list_any (same_key e.0) keys)) t
      ∙ filter_agree _ (λ e. not (lost (Some e.1) && list_any (same_key e.0) (k ∷ keys)))
      (λ e. either_goes (lost (Some e.1)) (same_key e.0 k) (list_any (same_key e.0) keys)) t

  -- one key further, and past the last
  pub one_further : (keys : List Key) (i : ℕ) (k d : Key) (t after : Table R) → i < length keys → k ≡ get_or keys i d
      → after ≡ without_loss k t → staying (drop (i + 1) keys) after ≡ staying (drop i keys) t
  one_further keys i k d t after inside is without =
      let rest : List Key = drop (i + 1) keys in
      let split : drop i keys ≡ get_or keys i d ∷ rest = rw add-one (drop-cons keys i d inside) in
      ap (λ u. staying rest u) without ∙ staying_after k rest t
      ∙ ap (λ (q : Key). staying (q ∷ rest) t) is ∙ ap (λ ks. staying ks t) (sym split)

  pub past_last : (keys : List Key) (i : ℕ) (t : Table R) → length keys ≤ i → t ≡ staying (drop i keys) t
  past_last keys i t past =
      sym (all_kept t) ∙ filter_agree _ (λ e. not (lost (Some e.1) && false)) (λ e. nothing (lost (Some e.1))) t
      ∙ ap (λ ks. staying ks t) (sym (drop_all i keys past))
    where
      nothing : (l : Bool) → true ≡ not (l && false)
      nothing true = refl
      nothing false = refl
