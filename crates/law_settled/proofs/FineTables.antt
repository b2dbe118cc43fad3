-- A table that is fine: its keys rise, and each entry is good.
use Rattle.std.{proofs.{Common.{◌≡◌, Bool, true, false, not, cond, List, [], ◌∷◌, map, fold, Option, Some, option_map, refl, subst, arith}, lemmas.Bool.not-true}, specs.List.{filter, filter_map, AllByRecursion}}
use Rattle.pim_types.{specs.{declared.fact.Key.Key, Keys.same_key}, proofs.Keys.equal_keys}
use Rattle.pim_model.{specs.Tables.{Table, row_at, put, drop_where, drop_at, set_row, changed_entry, change_row}}
use Rattle.law_settled.{proofs.{TableLaws.row_of_each, RowLaws.{each_put, changed_key}, ListLaws.{each_filter, each_filter_map, each_map, each_more, each_passing}, RisingKeys.{Up, up_filter, up_filter_map, up_map, up_put}}}

module _ {R : Type 0} (Good : Key × R → Type 0) where
  pub record Fine (t : Table R) : Type 0 where
    pub up : Up t
    pub each : AllByRecursion Good t

  pub fine_filter : (test : Key × R → Bool) (t : Table R) → Fine t → Fine (filter test t)
  fine_filter test t f = record { up = up_filter test t f.up; each = each_filter Good test t f.each }

  pub fine_drop_where : (test : Key → Bool) (t : Table R) → Fine t → Fine (drop_where test t)
  unfolding drop_where
  fine_drop_where test t f = fine_filter (λ e. not (test e.0)) t f

  pub fine_drop_at : (t : Table R) (k : Key) → Fine t → Fine (drop_at t k)
  unfolding drop_at
  fine_drop_at t k f = fine_drop_where (same_key k) t f

  pub fine_put : (t : Table R) (k : Key) (r : R) → Good (k, r) → Fine t → Fine (put t k r)
  fine_put t k r good f = record { up = up_put k r t f.up; each = each_put k r Good good t f.each }

  pub fine_set_row : (t : Table R) (k : Key) (o : Option R) → ((r : R) → o ≡ Some r → Good (k, r)) → Fine t
      → Fine (set_row t k o)
  unfolding set_row
  fine_set_row t k o good f = grind (arith, fine_drop_at, fine_put)

  pub fine_map : (f : Key × R → Key × R) → ((e : Key × R) → (f e).0 ≡ e.0) → ((e : Key × R) → Good e → Good (f e))
      → (t : Table R) → Fine t → Fine (map f t)
  fine_map f keys keeps t g = record { up = up_map f keys t g.up; each = each_map Good Good f keeps t g.each }

  pub fine_filter_map : (h : Key × R → Option (Key × R)) → ((x y : Key × R) → h x ≡ Some y → y.0 ≡ x.0)
      → ((x y : Key × R) → h x ≡ Some y → Good x → Good y) → (t : Table R) → Fine t → Fine (filter_map h t)
  fine_filter_map h keys keeps t g =
      record { up = up_filter_map h keys t g.up; each = each_filter_map Good Good h keeps t g.each }

  pub fine_fold_each : {A : Type 0} (P : A → Type 0) (f : Table R → A → Table R)
      → ((t : Table R) (a : A) → P a → Fine t → Fine (f t a))
      → (as' : List A) → AllByRecursion P as' → (t : Table R) → Fine t → Fine (fold f t as')
  fine_fold_each P f keeps [] e t g = g
  fine_fold_each P f keeps (a ∷ as') e t g = fine_fold_each P f keeps as' e.1 (f t a) (keeps t a e.0 g)

  -- ---- a row that is changed

  module _ (change : R → Option R) (k : Key) where
    module _ (keeps : (q : Key) (r r' : R) → k ≡ q → change r ≡ Some r' → Good (q, r) → Good (q, r')) where
      changed_good : (x y : Key × R) (b : Bool) (o : Option R) → same_key k x.0 ≡ b → change x.1 ≡ o
          → cond b (option_map (λ (r : R). let p : Key × R = (x.0, r) in p) o) (Some x) ≡ Some y → Good x → Good y
      changed_good x y b o e f g good = grind (arith, equal_keys)

      pub fine_change_row : (t : Table R) → Fine t → Fine (change_row change k t)
      unfolding change_row changed_entry
      fine_change_row t f =
          fine_filter_map (changed_entry change k) (changed_key change k)
          (λ x y e good. changed_good x y (same_key k x.0) (change x.1) refl refl e good) t f

  pub fine_replaced : (o : Option R) (k : Key) → ((old r : R) → o ≡ Some r → Good (k, old) → Good (k, r))
      → (t : Table R) → Fine t
      → Fine (change_row (λ old. o) k t)
  fine_replaced o k good t f = grind (arith, fine_change_row)

  pub fine_replaced_by : (k : Key) (row : R) → ((old : R) → Good (k, old) → Good (k, row)) → (t : Table R) → Fine t
      → Fine (change_row (λ old. Some row) k t)
  fine_replaced_by k row good t f =
      fine_replaced (Some row) k
      (λ old r e g. let same : row ≡ r = cc in subst (λ (a : R). Good (k, a)) same (good old g)) t f

  -- ---- a row that is found

  pub good_row : (t : Table R) (k : Key) (r : R) → Fine t → row_at t k ≡ Some r → Good (k, r)
  good_row t k r f e = row_of_each Good k r t f.each e

pub fine_more : {R : Type 0} (P Q : Key × R → Type 0) → ((e : Key × R) → P e → Q e) → (t : Table R) → Fine P t
    → Fine Q t
fine_more P Q more t f = record { up = f.up; each = each_more P Q more t f.each }

-- what is left of a table is good in a stricter sense
pub fine_dropped : {R : Type 0} (P Q : Key × R → Type 0) (test : Key → Bool)
    → ((e : Key × R) → P e → test e.0 ≡ false → Q e) → (t : Table R)
    → Fine P t → Fine Q (drop_where test t)
unfolding drop_where
fine_dropped P Q test stricter t f = record {
  up = up_filter (λ e. not (test e.0)) t f.up;
  each =
      each_more (λ e. P e × (not (test e.0) ≡ true)) Q (λ e g. stricter e g.0 (not-true (test e.0) g.1))
      (filter (λ e. not (test e.0)) t)
      (each_passing P (λ e. not (test e.0)) t f.each);
}
