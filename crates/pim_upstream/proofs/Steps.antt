-- Changes one after the other: of those that pass a test, and of values.
use Rattle.std.{proofs.Common.{◌≡◌, Bool, true, false, cond, List, [], ◌∷◌, ◌++◌, map, refl, ap, ◌∙◌}, specs.List.filter}
use Rattle.pim_model.{specs.Querier.each_in_turn}

module _ {S A M : Type 0} (step : S → A → S × List M) where
  module _ (passes : A → Bool) where
    abbrev step_if : S → A → S × List M
    step_if s x = cond (passes x) (step s x) (s, [])

    one_step : (x : A) (xs : List A) (s : S) (b : Bool)
        → ((t : S) → each_in_turn step_if t xs ≡ each_in_turn step t (filter passes xs))
        → (let first : S × List M = cond b (step s x) (s, []) in
        let later : S × List M = each_in_turn step_if first.0 xs in
        let both : S × List M = (later.0, first.1 ++ later.1) in both)
        ≡ each_in_turn step s (cond b (x ∷ filter passes xs) (filter passes xs))
    unfolding each_in_turn
    one_step x xs s true rest =
        ap (λ (later : S × List M). let both : S × List M = (later.0, (step s x).1 ++ later.1) in both)
        (rest (step s x).0)
    one_step x xs s false rest = rest s

    -- a step that leaves out those that don't pass
    pub passing : (xs : List A) (s : S) → each_in_turn step_if s xs ≡ each_in_turn step s (filter passes xs)
    unfolding each_in_turn
    passing [] s = refl
    passing (x ∷ xs) s = one_step x xs s (passes x) (passing xs)

  pub of_values : {B : Type 0} (value : B → A) (xs : List B) (s : S)
      → each_in_turn step s (map value xs) ≡ each_in_turn (λ t x. step t (value x)) s xs
  unfolding each_in_turn
  of_values value [] s = refl
  of_values value (x ∷ xs) s =
      ap (λ (later : S × List M). let both : S × List M = (later.0, (step s (value x)).1 ++ later.1) in both)
      (of_values value xs (step s (value x)).0)

-- two steps that do the same are the same, one after the other
pub same_steps : {S A M : Type 0} (step other : S → A → S × List M) → ((s : S) (x : A) → step s x ≡ other s x)
    → (xs : List A) (s : S) → each_in_turn step s xs ≡ each_in_turn other s xs
unfolding each_in_turn
same_steps step other same [] s = refl
same_steps {S} {A} {M} step other same (x ∷ xs) s =
    ap (λ (first : S × List M). let later : S × List M = each_in_turn step first.0 xs in
    let both : S × List M = (later.0, first.1 ++ later.1) in both) (same s x)
    ∙ ap (λ (later : S × List M). let both : S × List M = (later.0, (other s x).1 ++ later.1) in both)
    (same_steps step other same xs (other s x).0)
