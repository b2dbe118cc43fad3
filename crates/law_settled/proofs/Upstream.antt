-- What is sent upstream leaves a fine state: a timer is set, or lowered, to an end later than the present.
use Rattle.std.{proofs.Common.{◌≡◌, ℕ, Bool, true, List, ⊎_elim}}
use Rattle.pim_types.{specs.declared.fact.Key.Key}
use Rattle.pim_model.{specs.{Clearing.clear, Firing.settled, Messages.Message, State.State, Tables.row_at, Upstream.{TimerChange, moved_join_timer, moved_override_timer, upstream}}}
use Rattle.law_settled.{proofs.{SettlingLaws.{IsFair, kept_by_telling, moved_join_row, moved_override_row}, Parts.{JoinTimers, OverrideTimers}, FineTables.{fine_set_row, good_row}, LateEnds.late_by, Clearing.{clear_fine, writing_fine}, FineStates.{Lateness, Good, IsFine, rows_fine}}}

module _ (m : ℕ) (late up : ℕ → Bool) (lateness : Lateness m late) where
  abbrev IsLate : ℕ → Type 0
  IsLate n = late n ≡ true

  module _ (s : State) (k : Key) (change : TimerChange) (fair : IsFair IsLate change) (f : IsFine m late up s) where
    moved_join_fine : IsFine m late up (moved_join_timer s k change)
    unfolding moved_join_timer
    moved_join_fine =
        rows_fine m late up JoinTimers tt s f _
        (fine_set_row (Good late up JoinTimers) s.join_timers k _
        (λ r e. ⊎_elim (good_row (Good late up JoinTimers) s.join_timers k r (f.tables JoinTimers)) (λ end. end)
        (moved_join_row IsLate change (row_at s.join_timers k) fair r e)) (f.tables JoinTimers))

    moved_override_fine : IsFine m late up (moved_override_timer s k change)
    unfolding moved_override_timer
    moved_override_fine =
        rows_fine m late up OverrideTimers tt s f _
        (fine_set_row (Good late up OverrideTimers) s.override_timers k _
        (λ r e. ⊎_elim (good_row (Good late up OverrideTimers) s.override_timers k r (f.tables OverrideTimers))
        (λ end. end)
        (moved_override_row IsLate change (row_at s.override_timers k) fair r e)) (f.tables OverrideTimers))

  pub upstream_fine : (o a : State) (w : ℕ) → IsFine m late up a → IsFine m late up (upstream o a w).0
  upstream_fine o a w f =
      kept_by_telling IsLate a w (λ d some. late_by m late lateness a.present d f.present some) (IsFine m late up)
      moved_join_fine moved_override_fine o f

  -- ---- all that follows

  pub settled_fine : (o : State) (change : State × List Message) (w : ℕ) → IsFine m late up change.0
      → IsFine m late up (settled o change w).0
  unfolding settled
  settled_fine o change w f =
      let after : State = (clear o change.0).0 in
      writing_fine m late up (upstream o after w).0 _ (upstream_fine o after w (clear_fine m late up o change.0 f))
