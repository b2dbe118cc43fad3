-- Answers that are kept and kept again are kept.
use Rattle.std.{proofs.Common.{◌≡◌, ℕ, true, Option, arith}}
use Rattle.pim_types.{specs.declared.fact.RegisterState.RegisterState}
use Rattle.pim_model.{specs.{Rows.{same_both, same_register_state}, State.State}}
use Rattle.law_events.{specs.Keeps.{KeepsAnswers, KeepsAt}}

states_through : (a b c : RegisterState) → same_register_state a b ≡ true → same_register_state b c ≡ true
    → same_register_state a c ≡ true
states_through a b c e f = grind arith

register_through : (a b c : Option RegisterState) → same_both same_register_state a b ≡ true
    → same_both same_register_state b c ≡ true → same_both same_register_state a c ≡ true
register_through a b c e f = grind (arith, states_through)

module _ (g src : ℕ) (o a b : State) where
  kept_at : (i : ℕ) → KeepsAt g src o a i → KeepsAt g src a b i → KeepsAt g src o b i
  kept_at i x y = grind arith

  pub kept_through : KeepsAnswers g src o a → KeepsAnswers g src a b → KeepsAnswers g src o b
  kept_through x y = grind (arith, register_through, kept_at)
