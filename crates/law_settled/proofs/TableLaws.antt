-- What passes a test in a table that was changed: it passed in the table before, or it is the new row.
use Rattle.std.{proofs.{Common.{◌≡◌, Bool, true, false, not, cond, ◌&&◌, ◌||◌, List, [], ◌∷◌, map, Option, Some, None, option_map, refl, sym, ap, ◌∙◌, subst, arith}, lemmas.Bool.{or_left, or_right}}, specs.{List.{filter, filter_map, cons_option, list_any, AllByRecursion}, Option.option_map_or}}
use Rattle.pim_types.{specs.{declared.fact.Key.Key, Keys.same_key}, proofs.Keys.equal_keys}
use Rattle.pim_model.{specs.Tables.{Table, row_at, drop_where, changed_entry, change_row}}
use Rattle.law_settled.{proofs.ListLaws.{any_more, any_of_filter, each_member, either}}

any_of_option : {Y : Type 0} (q : Y → Bool) (o : Option Y) (ys : List Y)
    → list_any q (cons_option o ys) ≡ (option_map_or q o false || list_any q ys)
any_of_option q o ys = grind arith

module _ {X Y : Type 0} (q : Y → Bool) where
  pub any_of_map : (f : X → Y) (xs : List X) → list_any q (map f xs) ≡ list_any (λ x. q (f x)) xs
  any_of_map f [] = refl
  any_of_map f (x ∷ xs) = ap (λ b. q (f x) || b) (any_of_map f xs)

  pub any_of_filter_map : (h : X → Option Y) (xs : List X)
      → list_any q (filter_map h xs) ≡ list_any (λ x. option_map_or q (h x) false) xs
  any_of_filter_map h [] = refl
  any_of_filter_map h (x ∷ xs) = grind (arith, any_of_filter_map h xs, any_of_option)

module _ {X : Type 0} (p q : X → Bool) where
  both_step : (x : X) (xs : List X) → (b : Bool) → p x ≡ b
      → list_any q (filter p xs) ≡ list_any (λ x. p x && q x) xs
      → list_any q (cond b (x ∷ filter p xs) (filter p xs)) ≡ ((b && q x) || list_any (λ x. p x && q x) xs)
  both_step x xs b e ih = grind arith

  pub any_in_filter : (xs : List X) → list_any q (filter p xs) ≡ list_any (λ x. p x && q x) xs
  any_in_filter [] = refl
  any_in_filter (x ∷ xs) = both_step x xs (p x) refl (any_in_filter xs)

pub none_passes : {X : Type 0} (q : X → Bool) → ((x : X) → q x ≡ true → ⊥) → (xs : List X) → list_any q xs ≡ true → ⊥
none_passes q none [] e = cc
none_passes q none (x ∷ xs) e = either (q x) (list_any q xs) (none x) (none_passes q none xs) e

pub any_of_either : {X : Type 0} (p q : X → Bool) (xs : List X) → list_any (λ x. p x || q x) xs ≡ true
    → (list_any p xs || list_any q xs) ≡ true
any_of_either p q [] e = e
any_of_either p q (x ∷ xs) e = grind (arith, any_of_either p q xs, or_right)

-- ---- tables

-- what holds of each entry holds of the row that is found
module _ {R : Type 0} (P : Key × R → Type 0) (k : Key) (r : R) where
  found_row : (x : Key × R) (b : Bool) (o : Option R) → same_key k x.0 ≡ b → P x → (o ≡ Some r → P (k, r))
      → cond b (Some x.1) o ≡ Some r → P (k, r)
  found_row x true o e here later f =
      let key : x.0 ≡ k = sym (equal_keys k x.0 e) in
      let row : x.1 ≡ r = cc in
      subst P (λ j. let p : Key × R = (key j, row j) in p) here
  found_row x false o e here later f = later f

  pub row_of_each : (t : Table R) → AllByRecursion P t → row_at t k ≡ Some r → P (k, r)
  unfolding row_at
  row_of_each [] e f = cc
  row_of_each (x ∷ xs) e f = grind (arith, row_of_each xs e.1, found_row)

module _ {R : Type 0} (q : Key × R → Bool) where
  pub any_of_drop : (test : Key → Bool) (t : Table R) → list_any q (drop_where test t) ≡ true → list_any q t ≡ true
  unfolding drop_where
  any_of_drop test t e = any_of_filter (λ e. not (test e.0)) q t e

  pub row_is_there : (k : Key) (t : Table R) (r : R) → q (k, r) ≡ true → row_at t k ≡ Some r → list_any q t ≡ true
  row_is_there k t r here e = row_of_each (λ x. q x ≡ true → list_any q t ≡ true) k r t (each_member q t) e here

  -- a row that is replaced, or goes
  replaced_step : (k : Key) (o : Option R) (x : Key × R) (b : Bool) → same_key k x.0 ≡ b
      → option_map_or q (cond b (option_map (λ (r : R). let p : Key × R = (x.0, r) in p) o) (Some x)) false ≡ true
      → (option_map_or (λ (r : R). q (k, r)) o false || q x) ≡ true
  replaced_step k None x true e f = cc
  replaced_step k (Some r) x true e f =
      let key : k ≡ x.0 = equal_keys k x.0 e in
      or_left (q (k, r)) (q x) (ap (λ (a : Key). q (a, r)) key ∙ f)
  replaced_step k o x false e f = or_right (option_map_or (λ (r : R). q (k, r)) o false) (q x) f

  pub any_or : (c : Bool) (xs : Table R) → list_any (λ x. c || q x) xs ≡ true → (c || list_any q xs) ≡ true
  any_or c xs e = grind arith

  pub any_of_replaced : (k : Key) (o : Option R) (t : Table R) → list_any q (change_row (λ old. o) k t) ≡ true
      → (option_map_or (λ (r : R). q (k, r)) o false || list_any q t) ≡ true
  unfolding change_row changed_entry
  any_of_replaced k o t e = grind (arith, any_or, any_more, replaced_step, any_of_filter_map)

  -- rows that are changed each by itself
  pub any_of_changed : (change : R → Option R)
      → ((k : Key) (r r' : R) → change r ≡ Some r' → q (k, r') ≡ true → q (k, r) ≡ true)
      → (k : Key) (t : Table R) → list_any q (change_row change k t) ≡ true → list_any q t ≡ true
  unfolding change_row changed_entry
  any_of_changed change keeps k t e = grind (arith, any_more, any_of_filter_map)
