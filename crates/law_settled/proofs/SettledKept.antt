-- What follows from a change makes no end by the present: the registers, what is cleared, what is sent upstream, the
-- packets.
use Rattle.std.{proofs.Common.{◌≡◌, ℕ, nat_lt, Bool, true, false, cond, List, ◌++◌, Some, refl, ◌∙◌, arith}}
use Rattle.pim_types.{specs.{declared.{timer.TimerKind.TimerKind, fact.{InterfaceRow.InterfaceRow, Key.Key, RegisterRow.RegisterRow, RegisterState.RegisterState, SourceRow.SourceRow}}, Keys.{group_in, source_in, is_on}}}
use Rattle.pim_model.{specs.{Asserts.{assert_forgotten, without_spt, without_spt_bit}, Clearing.clear, Firing.settled, Messages.Message, Registers.{could_register, settle_registers, settled_register}, State.{State, interfaces_of}, Tables.{Table, row_at, has_row, keys_in}, Upstream.{TimerChange, moved_join_timer, moved_override_timer, upstream}, Writing.{hellos_paid, write_all}}}
use Rattle.law_settled.{proofs.{ListLaws.by_cond, SettlingLaws.{IsFair, kept_by_clearing, kept_by_telling, kept_by_writing, moved_join_row, moved_override_row}, TurnLaws.kept_by_fold, Ends.{Mark, PartKeeps, always, shows_row, Keeps, kept, kept_then, part_put, part_same, part_then, part_without, map_kept, changed_kept, rows_kept, set_row_kept}, Parts.{Asserts, Interfaces, JoinTimers, OverrideTimers, Registers, Sources, end_of}, DueKept.later_than}}

-- ---- the registers

module _ (m : ℕ) (s : State) where
  register_kept : (k : Key) (t : Table RegisterRow) → PartKeeps m Registers t (settled_register s k t)
  unfolding settled_register
  register_kept k t =
      by_cond (PartKeeps m Registers t) (could_register s (group_in k) (source_in k)) _ _
      (by_cond (PartKeeps m Registers t) (has_row t k) t _ (part_same m Registers t)
      (part_put m Registers k (record { state = RegisterState.Join }) t refl (refl, tt)))
      (part_without m Registers k t)

  pub registers_settled : Keeps m s (settle_registers s)
  unfolding settle_registers
  registers_settled =
      rows_kept m s Registers _
      (kept_by_fold (λ t k. settled_register s k t) (PartKeeps m Registers s.registers)
      (λ t k f. part_then m Registers s.registers t _ f (register_kept k t)) (keys_in s.sources ++ keys_in s.registers)
      s.registers
      (part_same m Registers s.registers))

-- ---- clearing

module _ (m : ℕ) where
  spt_row : (r r' : SourceRow) (mark : Mark) (k : Key) → without_spt r ≡ Some r'
      → shows_row (end_of TimerKind.Keepalive) always mark (k, r') ≡ true
      → shows_row (end_of TimerKind.Keepalive) always mark (k, r) ≡ true
  spt_row r r' mark k e f = grind arith

  pub clear_kept : (o s : State) → Keeps m s (clear o s).0
  unfolding assert_forgotten without_spt_bit
  clear_kept o s = kept_by_clearing (Keeps m s) forgets unsets o s (registers_settled m s)
    where
      forgets : (t : State) (k : Key) → Keeps m s t → Keeps m s (assert_forgotten t k)
      forgets t k f = kept_then m s t _ f (rows_kept m t Asserts _ (part_without m Asserts k t.asserts))

      unsets : (t : State) (k : Key) → Keeps m s t → Keeps m s (without_spt_bit t k)
      unsets t k f =
          kept_then m s t _ f
          (rows_kept m t Sources _ (
            changed_kept (end_of TimerKind.Keepalive) always m without_spt
                (λ mark q r r' e. spt_row r r' mark q e) k t.sources,
            tt,
          ))

-- ---- the packets

module _ (m : ℕ) where
  paid_row : (b : Bool) (mark : Mark) (e : Key × InterfaceRow)
      → shows_row (end_of TimerKind.Hello) always mark
      (cond b (e.0, record (e.1) { is_hello_owed = false }) e) ≡ true
      → shows_row (end_of TimerKind.Hello) always mark e ≡ true
  paid_row b mark e f = grind arith

  paid_kept : (i : ℕ) (t : Table InterfaceRow) → PartKeeps m Interfaces t (hellos_paid i t)
  unfolding hellos_paid
  paid_kept i t = (map_kept (end_of TimerKind.Hello) always m _ (λ mark e f. paid_row (is_on i e.0) mark e f) t, tt)

  pub writing_kept : (s : State) (messages : List Message) → Keeps m s (write_all s messages).0
  unfolding write_all
  writing_kept s messages =
      rows_kept m s Interfaces _
      (kept_by_writing (PartKeeps m Interfaces s.interfaces)
      (λ i t f. part_then m Interfaces s.interfaces t _ f (paid_kept i t)) (interfaces_of s) messages
      (part_same m Interfaces s.interfaces))

-- ---- upstream: a timer is set, or lowered, to an end later than the present

module _ (m : ℕ) (s : State) (k : Key) (change : TimerChange) (fair : IsFair (λ n. nat_lt m n ≡ true) change) where
  moved_join_timer_kept : Keeps m s (moved_join_timer s k change)
  unfolding moved_join_timer
  moved_join_timer_kept =
      rows_kept m s JoinTimers _ (
        set_row_kept (end_of TimerKind.Join) always m s.join_timers k _ (λ r. refl)
            (moved_join_row (λ n. nat_lt m n ≡ true) change (row_at s.join_timers k) fair),
        tt,
      )

  moved_override_timer_kept : Keeps m s (moved_override_timer s k change)
  unfolding moved_override_timer
  moved_override_timer_kept =
      rows_kept m s OverrideTimers _ (
        set_row_kept (end_of TimerKind.Override) always m s.override_timers k _ (λ r. refl)
            (moved_override_row (λ n. nat_lt m n ≡ true) change (row_at s.override_timers k) fair),
        tt,
      )

pub upstream_kept : (m : ℕ) (o a : State) (w : ℕ) → a.present ≡ m → Keeps m a (upstream o a w).0
upstream_kept m o a w now =
    kept_by_telling (λ n. nat_lt m n ≡ true) a w (λ d some. later_than m a.present d now some) (Keeps m a)
    (λ s k change fair f. kept_then m a s _ f (moved_join_timer_kept m s k change fair))
    (λ s k change fair f. kept_then m a s _ f (moved_override_timer_kept m s k change fair)) o (kept m a)

-- ---- all that follows

pub settled_kept : (m : ℕ) (o : State) (change : State × List Message) (w : ℕ) → (change.0).present ≡ m
    → Keeps m change.0 (settled o change w).0
unfolding settled
settled_kept m o change w now =
    let after : State = (clear o change.0).0 in
    let clears : Keeps m change.0 after = clear_kept m o change.0 in
    let told : State = (upstream o after w).0 in
    let tells : Keeps m after told = upstream_kept m o after w (clears.present ∙ now) in
    kept_then m change.0 after _ clears (kept_then m after told _ tells (writing_kept m told _))
