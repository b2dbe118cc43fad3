-- The removals and what follows are the reload.
use Rattle.std.{proofs.Common.{◌≡◌, ◌++◌, ℕ, List, ap, append_assoc, ◌∙◌}}
use Rattle.pim_types.{specs.declared.{config.Config.Config, outcome.Emission.Emission}}
use Rattle.pim_model.{specs.{State.{State, addressing_of}, Step.{run, state_after}}}
use Rattle.law_states.{specs.Reloading.{goodbyes, reload, removals, replaced, sent_by}}

module _ (s m n : State) (c : Config) (w v : ℕ) (left : m ≡ state_after s (removals s c w)) (same : v ≡ w) where
  pub whole_state : n ≡ (replaced m c v).0 → n ≡ (reload s c w).0
  unfolding reload state_after
  whole_state is = is ∙ (λ j. (replaced (left j) c (same j)).0)

  pub whole_sent : (first said later all : List Emission) → first ≡ sent_by (run s (removals s c w))
      → said ≡ first ++ goodbyes m (addressing_of c) → later ≡ (replaced m c v).1 → all ≡ said ++ later → all ≡ (reload s c w).1
  unfolding reload state_after run
  whole_sent first said later all goes says is both =
      both ∙ ap (λ (es : List Emission). es ++ later) says
      ∙ (append_assoc first (goodbyes m (addressing_of c)) later
      ∙ ((λ j. goes j ++ (goodbyes m (addressing_of c) ++ is j))
      ∙ (λ j. sent_by (run s (removals s c w)) ++ (goodbyes (left j) (addressing_of c) ++ (replaced (left j) c (same j)).1))))
