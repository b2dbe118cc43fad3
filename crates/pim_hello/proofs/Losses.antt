-- Asserts lost to a neighbour, ended by their keys.
use Rattle.std.{proofs.Common.{◌≡◌, Bool, true, false, cond, not, ◌&&◌, List, [], ◌∷◌, filter, refl, ap, ◌∙◌}, specs.{List.{AllByRecursion, Sorted.IsStrictlySortedBy}, Ordering.is_eq, declared.cmp.Ordering.TheVariants.Less}}
use Rattle.pim_types.{specs.{declared.fact.Key.Key, Keys.{key_cmp, same_key}}, proofs.Keys.same_key_same}
use Rattle.pim_model.{specs.{Downstream.is_named, Tables.{Table, keys_in}}}
use Rattle.law_settled.{proofs.RowLaws.same_key_swap}

kept_unnamed : (b : Bool) → not (b && false) ≡ true
kept_unnamed true = refl
kept_unnamed false = refl

module _ {R : Type 0} (lost test : Key × R → Bool) (are_lost : (e : Key × R) → test e ≡ true → lost e ≡ true) where
  -- the rows that stay where those that are lost go under these keys
  abbrev pub staying : List Key → Table R → Table R
  staying keys t = filter (λ e. not (lost e && is_named keys e.0)) t

  named_step : (k : Key) (x : Key × R) (t : Table R) (b : Bool) → same_key k x.0 ≡ false
      → is_named (keys_in (filter test t)) k ≡ false
      → is_named (keys_in (cond b (x ∷ filter test t) (filter test t))) k ≡ false
  unfolding is_named keys_in
  named_step k x t true other later = rw other later
  named_step k x t false other later = later

  -- later rows aren't under the key
  named_later : (k : Key) (t : Table R) → AllByRecursion (λ y. key_cmp k y ≡ Less) (keys_in t)
      → is_named (keys_in (filter test t)) k ≡ false
  unfolding is_named keys_in
  named_later k [] later = refl
  named_later k (x ∷ t) later = named_step k x t (test x) (ap is_eq later.0) (named_later k t later.1)

  later_stay : (k : Key) (ks : List Key) (t : Table R) → AllByRecursion (λ y. key_cmp k y ≡ Less) (keys_in t)
      → staying (k ∷ ks) t ≡ staying ks t
  unfolding is_named keys_in
  later_stay k ks [] later = refl
  later_stay k ks (x ∷ t) later =
      rw (same_key_swap x.0 k ∙ ap is_eq later.0)
      (ap (λ (ys : Table R). cond (not (lost x && is_named ks x.0)) (x ∷ ys) ys) (later_stay k ks t later.1))

  step : (x : Key × R) (t : Table R) (b : Bool) → test x ≡ b → AllByRecursion (λ y. key_cmp x.0 y ≡ Less) (keys_in t)
      → staying (keys_in (filter test t)) t ≡ filter (λ e. not (test e)) t
      → staying (keys_in (cond b (x ∷ filter test t) (filter test t))) (x ∷ t)
      ≡ cond (not b) (x ∷ filter (λ e. not (test e)) t) (filter (λ e. not (test e)) t)
  unfolding is_named keys_in
  step x t true e later rest =
      rw (are_lost x e, same_key_same x.0) (later_stay x.0 (keys_in (filter test t)) t later ∙ rest)
  step x t false e later rest =
      rw (named_later x.0 t later, kept_unnamed (lost x)) (ap (λ (ys : Table R). x ∷ ys) rest)

  -- the rows under the keys of those that pass are those that pass
  pub losses_ended : (t : Table R) → IsStrictlySortedBy key_cmp (keys_in t)
      → staying (keys_in (filter test t)) t ≡ filter (λ e. not (test e)) t
  unfolding keys_in IsStrictlySortedBy
  losses_ended [] rises = refl
  losses_ended (x ∷ t) rises = step x t (test x) refl rises.0 (losses_ended t rises.1)
