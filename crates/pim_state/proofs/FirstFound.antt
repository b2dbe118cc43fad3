-- Whether an element passes, by the first of those that pass.
use Rattle.std.{proofs.Common.{◌≡◌, Bool, true, false, cond, not, ◌||◌, List, [], ◌∷◌, Option, Some, None, is_some, refl, sym, ap, ◌∙◌}, specs.{List.{filter, list_any}, Prelude.MatchOption}}
use Rattle.pim_model.{specs.Tables.is_empty_list}

module _ {X : Type 0} (p : X → Bool) where
  step : (b : Bool) (x : X) (xs : List X) → list_any p xs ≡ not (is_empty_list (filter p xs))
      → (b || list_any p xs) ≡ not (is_empty_list (cond b (x ∷ filter p xs) (filter p xs)))
  step true x xs rest = refl
  step false x xs rest = rest

  some_passes : (xs : List X) → list_any p xs ≡ not (is_empty_list (filter p xs))
  some_passes [] = refl
  some_passes (x ∷ xs) = step (p x) x xs (some_passes xs)

  pub any_by_first : {A : Type 0} (view : A → X) (xs found rest : List X) (o : Option A) → found ≡ filter p xs
      → MatchOption o ((found ≡ []) × (rest ≡ [])) (λ a. found ≡ view a ∷ rest) → is_some o ≡ list_any p xs
  any_by_first view xs found rest None is gives =
      sym (some_passes xs ∙ ap (λ (ys : List X). not (is_empty_list ys)) (sym is ∙ gives.0))
  any_by_first view xs found rest (Some a) is gives =
      sym (some_passes xs ∙ ap (λ (ys : List X). not (is_empty_list ys)) (sym is ∙ gives))
