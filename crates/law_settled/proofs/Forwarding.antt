-- Packets and Registers leave a fine state.
use Rattle.std.{proofs.Common.{◌≡◌, ℕ, ◌+◌, Bool, true, cond, List, [], map, Some, refl, arith}}
use Rattle.pim_ip.{specs.Ipv4.Packet}
use Rattle.pim_types.{specs.{declared.fact.{Key.Key, RegisterRow.RegisterRow, RegisterState.RegisterState, SourceRow.SourceRow}, Keys.{iface_in, group_in, source_key, star_key}}}
use Rattle.pim_model.{specs.{Asserts.{data_seen, with_spt_bit}, Forwarding.{Forwarded, forwarded, is_spt_reached, list_chosen, register_at_rp, register_received, source_here, source_joined, spt_updated, stray, watched, when}, Messages.Message, Registers.{is_meant, register_due, register_stop_seen, registers_after_rps, settle_register, state_after_stop, with_keepalive, with_register_state}, Sets.spt_bit, State.State, Tables.{delay_in, same_option}, Timers.register_end, Unicast.{is_rp, rp_of}}}
use Rattle.law_settled.{proofs.{ListLaws.by_cond, Parts.{Registers, Sources}, Asserts.{data_seen_fine, with_spt_fine}, FineTables.{Fine, fine_map}, Hellos.some_delay, LateEnds.late_by, Clearing.settle_register_fine, FineStates.{Lateness, Runs, Good, IsFine, rows_fine, with_row, with_row_for}}}

module _ (m : ℕ) (late up : ℕ → Bool) (lateness : Lateness m late) where
  keepalive_fine : (s : State) (g src : ℕ) → IsFine m late up s → IsFine m late up (with_keepalive s g src)
  unfolding with_keepalive
  keepalive_fine s g src f =
      let row : SourceRow = record { keepalive = Some (s.present + 210000); spt = spt_bit s g src } in
      with_row m late up Sources tt s f (source_key 0 g src) row
      (late_by m late lateness s.present 210000 f.present (omega arith), refl)

  when_fine : (b : Bool) (change : State → State) (s : State) → IsFine m late up (change s) → IsFine m late up s
      → IsFine m late up (when b change s)
  when_fine b change s f g = grind arith

  here_fine : (s : State) (g src iif : ℕ) → IsFine m late up s → IsFine m late up (source_here s g src iif)
  unfolding source_here
  here_fine s g src iif f =
      by_cond (IsFine m late up) _ (settle_register (with_keepalive s g src) (source_key 0 g src)) s
      (settle_register_fine m late up (with_keepalive s g src) (source_key 0 g src) (keepalive_fine s g src f)) f

  joined_fine : (s : State) (g src iif : ℕ) → IsFine m late up s → IsFine m late up (source_joined s g src iif)
  unfolding source_joined
  joined_fine s g src iif f = when_fine _ (λ t. with_keepalive t g src) s (keepalive_fine s g src f) f

  updated_fine : (s : State) (g src iif : ℕ) → IsFine m late up s → IsFine m late up (spt_updated s g src iif)
  unfolding spt_updated
  updated_fine s g src iif f =
      when_fine (is_spt_reached s g src iif) (λ t. with_spt_bit t g src) s (with_spt_fine m late up lateness s g src f)
      f

  watched_fine : (s : State) (g src : ℕ) → IsFine m late up s → IsFine m late up (watched s g src)
  unfolding watched
  watched_fine s g src f = when_fine _ (λ t. with_keepalive t g src) s (keepalive_fine s g src f) f

  record Carries (p : Forwarded) : Type 0 where
    fine : IsFine m late up p.state

  stray_fine : (s : State) (g src iif : ℕ) → up iif ≡ true → IsFine m late up s → Carries (stray s g src iif)
  unfolding stray
  stray_fine s g src iif here f =
      let k : Key = cond (spt_bit s g src) (source_key iif g src) (star_key iif g) in
      record {
        fine = by_cond (λ (p : State × List Message). IsFine m late up p.0) _ (data_seen s k) (s, [])
            (data_seen_fine m late up lateness s k
            (by_cond (λ (q : Key). up (iface_in q) ≡ true) (spt_bit s g src) (source_key iif g src) (star_key iif g)
            here here) f) f;
      }

  chosen_fine : (s : State) (g src iif : ℕ) → up iif ≡ true → IsFine m late up s → Carries (list_chosen s g src iif)
  unfolding list_chosen
  chosen_fine s g src iif here f =
      by_cond Carries _ _ _ (record { fine = f })
      (by_cond Carries _ _ _ (record { fine = watched_fine s g src f }) (stray_fine s g src iif here f))

  pub forwarded_fine : (s : State) (g src iif : ℕ) → up iif ≡ true → IsFine m late up s
      → IsFine m late up (forwarded s g src iif).state
  unfolding forwarded
  forwarded_fine s g src iif here f =
      let first : State = source_here s g src iif in
      let joined : State = source_joined first g src iif in
      (chosen_fine (spt_updated joined g src iif) g src iif here
      (updated_fine joined g src iif (joined_fine first g src iif (here_fine s g src iif f)))).fine

  at_rp_fine : (s : State) (p : Packet) (g src : ℕ) (is_null : Bool) → IsFine m late up s
      → Carries (register_at_rp s p g src is_null)
  unfolding register_at_rp
  at_rp_fine s p g src is_null f =
      record { fine = when_fine _ (λ t. with_keepalive t g src) s (keepalive_fine s g src f) f }

  pub register_received_fine : (s : State) (p : Packet) (g src : ℕ) (is_null : Bool) → IsFine m late up s
      → IsFine m late up (register_received s p g src is_null).state
  unfolding register_received
  register_received_fine s p g src is_null f =
      (by_cond Carries (is_rp s g p.destination) (register_at_rp s p g src is_null) _ (at_rp_fine s p g src is_null f)
      (record { fine = f })).fine

  -- ---- registers

  stopped_runs : (end : ℕ) → late end ≡ true → (old : RegisterState) → Runs late (register_end old)
      → Runs late (register_end (state_after_stop end old))
  stopped_runs end h old f = grind arith

  stopped_entry : ℕ → ℕ → ℕ → Key × RegisterRow → Key × RegisterRow
  stopped_entry g src end e =
      cond (is_meant g src e) (let p : Key
      × RegisterRow = (e.0, record { state = state_after_stop end (e.1).state }) in p) e

  stopped_key : (g src end : ℕ) (e : Key × RegisterRow) → (stopped_entry g src end e).0 ≡ e.0
  unfolding stopped_entry
  stopped_key g src end e = by_cond (λ (p : Key × RegisterRow). p.0 ≡ e.0) (is_meant g src e) _ e refl refl

  stopped_good : (g src end : ℕ) → late end ≡ true → (e : Key × RegisterRow) → Good late up Registers e
      → Good late up Registers (stopped_entry g src end e)
  unfolding stopped_entry
  stopped_good g src end h e f = grind (arith, by_cond, stopped_runs)

  pub register_stop_fine : (s : State) (w g src : ℕ) → IsFine m late up s
      → IsFine m late up (register_stop_seen s w g src)
  unfolding register_stop_seen stopped_entry
  register_stop_fine s w g src f =
      let end : ℕ = s.present + delay_in 25000 85000 w in
      rows_fine m late up Registers tt s f (map (stopped_entry g src end) s.registers)
      (fine_map (Good late up Registers) (stopped_entry g src end) (stopped_key g src end)
      (stopped_good g src end
      (late_by m late lateness s.present (delay_in 25000 85000 w) f.present
      (some_delay m late up lateness 25000 85000 w (omega arith))))
      s.registers (f.tables Registers))

  with_state_fine : (s : State) (k : Key) (state : RegisterState) → Runs late (register_end state) → IsFine m late up s
      → IsFine m late up (with_register_state s k state)
  with_state_fine s k state h f =
      with_row_for m late up Registers tt s f k (record { state = state }) (λ old g. h)

  pub register_due_fine : (s : State) (k : Key) (state : RegisterState) → IsFine m late up s
      → IsFine m late up (register_due s k state).0
  unfolding register_due
  register_due_fine s k (RegisterState.Prune end) f =
      with_state_fine s k (RegisterState.JoinPending (s.present + 5000))
      (late_by m late lateness s.present 5000 f.present (omega arith)) f
  register_due_fine s k (RegisterState.JoinPending end) f = with_state_fine s k RegisterState.Join tt f
  register_due_fine s k RegisterState.Join f = with_state_fine s k RegisterState.Join tt f

  rps_entry : State → State → Key × RegisterRow → Key × RegisterRow
  rps_entry before after e =
      cond (same_option (rp_of before (group_in e.0)) (rp_of after (group_in e.0))) e
      (let p : Key × RegisterRow = (e.0, record { state = RegisterState.Join }) in p)

  rps_key : (o a : State) (e : Key × RegisterRow) → (rps_entry o a e).0 ≡ e.0
  unfolding rps_entry
  rps_key o a e = grind (arith, by_cond)

  rps_good : (o a : State) (e : Key × RegisterRow) → Good late up Registers e → Good late up Registers (rps_entry o a e)
  unfolding rps_entry
  rps_good o a e f = grind (arith, by_cond)

  pub after_rps_fine : (o a : State) → IsFine m late up a → Fine (Good late up Registers) (registers_after_rps o a)
  unfolding registers_after_rps rps_entry
  after_rps_fine o a f =
      fine_map (Good late up Registers) (rps_entry o a) (rps_key o a) (rps_good o a) a.registers (f.tables Registers)
