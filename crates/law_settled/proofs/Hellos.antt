-- A Hello leaves a fine state.
use Rattle.std.{proofs.Common.{◌≡◌, ℕ, suc, zero, ◌≤◌, ◌+◌, ◌==◌, min, Bool, true, false, not, cond, map, filter, Some, None, refl, arith}}
use Rattle.pim_types.{specs.{declared.fact.{InterfaceRow.InterfaceRow, JoinTimerRow.JoinTimerRow, Key.Key, NeighbourRow.NeighbourRow}, Keys.{is_on, neighbour_key}}}
use Rattle.pim_wire.{specs.declared.hello.Hello.Hello as HelloValue}
use Rattle.pim_model.{specs.{Downstream.holdtime_end_from, Hellos.{hello_holdtime_of, hello_received, hello_triggered, hellos_triggered, is_generation_changed, is_lost_to, neighbour_replaced, neighbour_restarted, neighbours_replaced, upstream_of}, Neighbours.{t_override, t_override_among}, State.State, Tables.{delay_in, hop_at, same_hop}}}
use Rattle.law_settled.{proofs.{RowLaws.has_row_map, ListLaws.by_cond, Parts.{Asserts, Interfaces, JoinTimers, Neighbours}, FineTables.{fine_filter, fine_map, fine_set_row}, LateEnds.{late_by, late_min}, FineStates.{Lateness, Runs, Good, IsFine, rows_fine, with_interfaces}}}

module _ (m : ℕ) (late up : ℕ → Bool) (lateness : Lateness m late) where
  pub some_delay : (low high w : ℕ) → 1 ≤ low → 1 ≤ delay_in low high w
  unfolding delay_in
  some_delay low high w h = omega arith

  pub some_override : (s : State) (i w : ℕ) → 1 ≤ t_override s i w
  unfolding t_override t_override_among
  some_override s i w = some_delay 1 _ w (omega arith)

  pub some_holdtime_runs : (p n : ℕ) → p ≡ m → Runs late (holdtime_end_from p (suc n))
  unfolding holdtime_end_from
  some_holdtime_runs p n now = grind (arith, by_cond, late_by)

  holdtime_runs : (p h : ℕ) → p ≡ m → (h == 0) ≡ false → Runs late (holdtime_end_from p h)
  holdtime_runs p zero now e = cc
  holdtime_runs p (suc n) now e = some_holdtime_runs p n now

  triggered : ℕ → ℕ → Key × InterfaceRow → Key × InterfaceRow
  triggered i end e =
      cond (is_on i e.0) (let p : Key
      × InterfaceRow = (e.0, record e.1 { hello_end = min (e.1).hello_end end; is_hello_owed = true }) in p) e

  triggered_key : (i end : ℕ) (e : Key × InterfaceRow) → (triggered i end e).0 ≡ e.0
  unfolding triggered
  triggered_key i end e = by_cond (λ (p : Key × InterfaceRow). p.0 ≡ e.0) (is_on i e.0) _ e refl refl

  triggered_good : (i end : ℕ) → late end ≡ true → (e : Key × InterfaceRow) → Good late up Interfaces e
      → Good late up Interfaces (triggered i end e)
  unfolding triggered
  triggered_good i end h e g = grind (arith, by_cond, late_min)

  triggered_fine : (s : State) (i w : ℕ) → IsFine m late up s → IsFine m late up (hello_triggered s i w)
  unfolding hello_triggered hellos_triggered triggered
  triggered_fine s i w f =
      let end : ℕ = s.present + delay_in 1 5000 w in
      with_interfaces m late up s f (map (triggered i end) s.interfaces)
      (λ k. has_row_map k (triggered i end) (triggered_key i end) s.interfaces)
      (fine_map (Good late up Interfaces) (triggered i end) (triggered_key i end)
      (triggered_good i end (late_by m late lateness s.present (delay_in 1 5000 w) f.present
      (some_delay 1 5000 w (omega arith))))
      s.interfaces (f.tables Interfaces))

  replaced_good : (p h : ℕ) (row r : NeighbourRow) (b : Bool) → (h == 0) ≡ b → p ≡ m → row.end ≡ holdtime_end_from p h
      → cond b None (Some row) ≡ Some r → Runs late r.end
  replaced_good p h row r b e now same g = grind (arith, holdtime_runs)

  replaced_fine : (s : State) (i address : ℕ) (h : HelloValue) → up i ≡ true → IsFine m late up s
      → IsFine m late up (neighbour_replaced s i address h)
  unfolding neighbour_replaced neighbours_replaced
  replaced_fine s i address h here f =
      rows_fine m late up Neighbours tt s f _
      (fine_set_row (Good late up Neighbours) s.neighbours (neighbour_key i address) _
      (λ r e. (
        replaced_good s.present (hello_holdtime_of h) _ r (hello_holdtime_of h == 0) refl f.present refl e,
        here,
      )) (f.tables Neighbours))

  restarted : State → ℕ → ℕ → ℕ → Key × JoinTimerRow → Key × JoinTimerRow
  restarted o i address end e =
      cond (same_hop (upstream_of o e.0) (Some (hop_at i address)))
      (let p : Key × JoinTimerRow = (e.0, record { end = min (e.1).end end }) in p) e

  restarted_key : (o : State) (i address end : ℕ) (e : Key × JoinTimerRow) → (restarted o i address end e).0 ≡ e.0
  unfolding restarted
  restarted_key o i address end e = grind (arith, by_cond)

  restarted_good : (o : State) (i address end : ℕ) → late end ≡ true → (e : Key × JoinTimerRow)
      → Good late up JoinTimers e
      → Good late up JoinTimers (restarted o i address end e)
  unfolding restarted
  restarted_good o i address end h e g = grind (arith, by_cond, late_min)

  restarted_fine : (o : State) (i address w : ℕ) (s : State) → IsFine m late up s
      → IsFine m late up (neighbour_restarted o i address w s)
  unfolding neighbour_restarted restarted
  restarted_fine o i address w s f =
      let end : ℕ = s.present + t_override s i w in
      let one : State = record s { asserts = filter (λ e. not (is_lost_to i address e)) s.asserts } in
      let g : IsFine m late up one =
      rows_fine m late up Asserts tt s f (filter (λ e. not (is_lost_to i address e)) s.asserts)
      (fine_filter (Good late up Asserts) (λ e. not (is_lost_to i address e)) s.asserts (f.tables Asserts)) in
      rows_fine m late up JoinTimers tt one g (map (restarted o i address end) s.join_timers)
      (fine_map (Good late up JoinTimers) (restarted o i address end) (restarted_key o i address end)
      (restarted_good o i address end
      (late_by m late lateness s.present (t_override s i w) f.present (some_override s i w)))
      s.join_timers (f.tables JoinTimers))

  pub hello_fine : (s : State) (i address : ℕ) (h : HelloValue) (w : ℕ) → up i ≡ true → IsFine m late up s
      → IsFine m late up (hello_received s i address h w)
  unfolding hello_received
  hello_fine s i address h w here f =
      let one : State = cond _ (hello_triggered s i w) s in
      let first : IsFine m late up one =
      by_cond (IsFine m late up) _ (hello_triggered s i w) s (triggered_fine s i w f) f in
      by_cond (IsFine m late up) (is_generation_changed s i address h) _ _
      (restarted_fine s i address w (neighbour_replaced one i address h) (replaced_fine one i address h here first))
      (replaced_fine one i address h here first)
