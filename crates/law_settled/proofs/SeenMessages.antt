-- A Join/Prune between other routers leaves a fine state.
use Rattle.std.{proofs.Common.{◌≡◌, ℕ, min, Bool, true, Option, Some, arith}, specs.Option.option_map_or}
use Rattle.pim_types.{specs.declared.fact.{JoinTimerRow.JoinTimerRow, Key.Key, OverrideTimerRow.OverrideTimerRow}}
use Rattle.pim_wire.{specs.Values.JoinPrune}
use Rattle.pim_model.{specs.{Neighbours.t_override, Seen.{cancel_override_timer, lower_join_timer, lower_override_timer, lowered_row, override_end, raise_join_timer, raised_row, seen}, State.State, Tables.{row_at, set_row}}}
use Rattle.law_settled.{proofs.{Parts.{JoinTimers, OverrideTimers}, FineTables.{fine_set_row, good_row}, Hellos.some_override, LateEnds.{late_by, late_max, late_min}, FineStates.{Lateness, Good, IsFine, rows_fine, with_row, without_row}, SeenLaws.kept_by_seen}}

module _ (m : ℕ) (late up : ℕ → Bool) (lateness : Lateness m late) where
  raised_late : (end : ℕ) (o : Option JoinTimerRow) → ((r : JoinTimerRow) → o ≡ Some r → late r.end ≡ true)
      → (r : JoinTimerRow) → raised_row end o ≡ Some r → late r.end ≡ true
  raised_late end o old r e = grind (arith, late_max)

  lowered_late : (end : ℕ) (o : Option JoinTimerRow) → late end ≡ true
      → ((r : JoinTimerRow) → o ≡ Some r → late r.end ≡ true)
      → (r : JoinTimerRow) → lowered_row end o ≡ Some r → late r.end ≡ true
  lowered_late end o h old r e = grind (arith, late_min)

  lowered_override : (end : ℕ) (o : Option OverrideTimerRow) → late end ≡ true
      → ((r : OverrideTimerRow) → o ≡ Some r → late r.end ≡ true)
      → late (option_map_or (λ (r : OverrideTimerRow). min r.end end) o end) ≡ true
  lowered_override end o h old = grind (arith, late_min)

  module _ (s : State) (f : IsFine m late up s) (k : Key) (end : ℕ) where
    raise_fine : IsFine m late up (raise_join_timer s k end)
    unfolding raise_join_timer
    raise_fine =
        rows_fine m late up JoinTimers tt s f (set_row s.join_timers k (raised_row end (row_at s.join_timers k)))
        (fine_set_row (Good late up JoinTimers) s.join_timers k (raised_row end (row_at s.join_timers k))
        (raised_late end (row_at s.join_timers k)
        (λ q g. good_row (Good late up JoinTimers) s.join_timers k q (f.tables JoinTimers) g))
        (f.tables JoinTimers))

    lower_fine : late end ≡ true → IsFine m late up (lower_join_timer s k end)
    unfolding lower_join_timer
    lower_fine h =
        rows_fine m late up JoinTimers tt s f (set_row s.join_timers k (lowered_row end (row_at s.join_timers k)))
        (fine_set_row (Good late up JoinTimers) s.join_timers k (lowered_row end (row_at s.join_timers k))
        (lowered_late end (row_at s.join_timers k) h
        (λ q g. good_row (Good late up JoinTimers) s.join_timers k q (f.tables JoinTimers) g))
        (f.tables JoinTimers))

    lower_override_fine : late end ≡ true → IsFine m late up (lower_override_timer s k end)
    unfolding lower_override_timer
    lower_override_fine h =
        let row : OverrideTimerRow =
        record { end = option_map_or (λ (r : OverrideTimerRow). min r.end end) (row_at s.override_timers k) end } in
        with_row m late up OverrideTimers tt s f k row
        (lowered_override end (row_at s.override_timers k) h
        (λ q g. good_row (Good late up OverrideTimers) s.override_timers k q (f.tables OverrideTimers) g))

    cancel_fine : IsFine m late up (cancel_override_timer s k)
    unfolding cancel_override_timer
    cancel_fine =
        without_row m late up OverrideTimers tt s f k

  pub seen_fine : (s : State) (w i : ℕ) (message : JoinPrune) → IsFine m late up s
      → IsFine m late up (seen s w i message)
  seen_fine s w i message f =
      let soon : late (override_end s i w) ≡ true =
      late_by m late lateness s.present (t_override s i w) f.present (some_override m late up lateness s i w) in
      kept_by_seen (IsFine m late up) s w i message (λ t k end g. raise_fine t g k end) (λ t k g. lower_fine t g k _ soon)
      (λ t k g. cancel_fine t g k 0) (λ t k g. lower_override_fine t g k _ soon) f
