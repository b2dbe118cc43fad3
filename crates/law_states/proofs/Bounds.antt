-- Numbers and tables that are bounded, and what a change of a row keeps of each.
use Rattle.std.{proofs.{Common.{◌≡◌, ℕ, ◌≤◌, nat_le, Bool, true, false, cond, List, option_map, Some, refl, subst, arith}, lemmas.Bool.Decides.nat_tests}, specs.List.{AllByRecursion, list_all}}
use Rattle.pim_types.{specs.{Keys.same_key, declared.fact.Key.Key}}
use Rattle.pim_model.{specs.Tables.{Table, change_row, changed_entry}}
use Rattle.law_settled.{proofs.ListLaws.{each_filter_map, each_more, each_of_list, list_of_each}}

pub never : {X : Type 0} → false ≡ true → X
never e = absurd cc

pub some_is : {A : Type 0} (a b : A) → Some a ≡ Some b → a ≡ b
some_is a b e = cc

pub at_most : (a b : ℕ) → nat_le a b ≡ true → a ≤ b
at_most a b e = grind (arith, nat_tests, e)

pub le_so : (a b : ℕ) → a ≤ b → nat_le a b ≡ true
le_so a b le = grind (arith, nat_tests, le)

module _ {X : Type 0} (end : X → ℕ) (last : ℕ) (xs : List X) where
  pub each_by : list_all (λ x. nat_le (end x) last) xs ≡ true → AllByRecursion (λ x. end x ≤ last) xs
  each_by e = each_more _ _ (λ x h. at_most (end x) last h) xs (each_of_list (λ x. nat_le (end x) last) xs e)

  pub by_each : AllByRecursion (λ x. end x ≤ last) xs → list_all (λ x. nat_le (end x) last) xs ≡ true
  by_each f = list_of_each (λ x. nat_le (end x) last) xs (each_more _ _ (λ x h. le_so (end x) last h) xs f)

-- the row at a key is replaced
module _ {R : Type 0} (k : Key) (r : R) (Good : Key × R → Type 0) (new : (q : Key) → same_key k q ≡ true → Good (q, r)) where
  entry : (x y : Key × R) (b : Bool) → same_key k x.0 ≡ b
      → cond b (option_map (λ (q : R). let p : Key × R = (x.0, q) in p) (Some r)) (Some x) ≡ Some y → Good x → Good y
  entry x y true is e f = subst Good (some_is (x.0, r) y e) (new x.0 is)
  entry x y false is e f = subst Good (some_is x y e) f

  pub each_replaced : (t : Table R) → AllByRecursion Good t → AllByRecursion Good (change_row (λ (old : R). Some r) k t)
  unfolding change_row changed_entry
  each_replaced t f = each_filter_map Good Good _ (λ x y e h. entry x y (same_key k x.0) refl e h) t f
