-- Join timers lowered one after the other, and all at once.
use Rattle.std.{proofs.{Common.{◌≡◌, ◌≤◌, ℕ, Bool, ap, ◌∙◌, sym, filter, map, min, arith}, Math.Nat.min-le_right}, specs.Prelude.if◌then◌else◌}
use Rattle.pim_types.{specs.declared.fact.{JoinTimerRow.JoinTimerRow, Key.Key}}
use Rattle.pim_model.{specs.{State.State, Tables.{Table, keys_in}}}
use Rattle.law_settled.{specs.Rows.all_changed, proofs.ChosenRows.chosen_changed}
use Rattle.pim_store.{specs.PimTables.lowered_join_timer}

abbrev low : ℕ → JoinTimerRow → JoinTimerRow
low end r = record { end = min r.end end }

least_twice : (a b : ℕ) → min (min a b) b ≡ min a b
least_twice a b = min_of_less (min a b) b (min-le_right a b) where
  min_of_less : (m n : ℕ) → m ≤ n → min m n ≡ m
  min_of_less m n le = omega (arith, le)

low_twice : (end : ℕ) (r : JoinTimerRow) → low end (low end r) ≡ low end r
low_twice end r = ap (λ (n : ℕ). let x : JoinTimerRow = record { end = n } in x) (least_twice r.end end)

pub lowered_where : (test : Key → Bool) (end : ℕ) (t : Table JoinTimerRow)
    → all_changed (lowered_join_timer end) t (filter test (keys_in t))
    ≡ map (λ (e : Key × JoinTimerRow). if test e.0 then (e.0, record { end = min (e.1).end end }) else e) t
lowered_where test end t = chosen_changed (low end) (low_twice end) test t

-- the rest of the state stays
pub kept : (a s n : State) (t : Table JoinTimerRow) → s ≡ record a { join_timers = s.join_timers }
    → n ≡ record s { join_timers = t }
    → n ≡ record a { join_timers = n.join_timers }
kept a s n t but is =
    is ∙ ap (λ (x : State). let y : State = record x { join_timers = t } in y) but
    ∙ ap (λ (u : Table JoinTimerRow). let y : State = record a { join_timers = u } in y)
    (sym (ap (λ (x : State). x.join_timers) is))
