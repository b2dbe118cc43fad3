-- How many rows are of an interface, and whether any is.
use Rattle.std.{proofs.Common.{◌≡◌, ◌||◌, ◌≤◌, ℕ, Bool, cond, [], ◌∷◌, is_some, length, refl, arith}, specs.List.list_any}
use Rattle.pim_model.{specs.Tables.{Table, keys_in, rows_on}}
use Rattle.pim_types.{specs.{declared.fact.Key.Key, Keys.is_on}}
use Rattle.pim_tables.{specs.RowsOf.first_key}
use Rattle.law_settled.{proofs.ListLaws.filter_shorter}

pub at_most_all : {R : Type 0} (i : ℕ) (t : Table R) → length (rows_on i t) ≤ length t
unfolding rows_on
at_most_all i t = filter_shorter (λ e. is_on i e.0) t

module _ {R : Type 0} (i : ℕ) where
  first_step : (e : Key × R) (t : Table R) (b : Bool) → is_on i e.0 ≡ b
      → is_some (first_key (rows_on i t)) ≡ list_any (is_on i) (keys_in t)
      → is_some (first_key (cond b (e ∷ rows_on i t) (rows_on i t))) ≡ (is_on i e.0 || list_any (is_on i) (keys_in t))
  first_step e t b is ih = grind arith

  pub first_is_any : (t : Table R) → is_some (first_key (rows_on i t)) ≡ list_any (is_on i) (keys_in t)
  unfolding rows_on keys_in
  first_is_any [] = refl
  first_is_any (e ∷ t) = first_step e t (is_on i e.0) refl (first_is_any t)
