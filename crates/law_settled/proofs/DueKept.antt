-- What each timer's end changes makes no end by the present, and the timer itself no longer ends by then.
use Rattle.std.{proofs.Common.{◌≡◌, ℕ, ◌≤◌, ◌+◌, nat_lt, nat_le, Bool, true, false, cond, List, Some, None, refl, arith, lt-ltb, rules}}
use Rattle.pim_types.{specs.declared.{fact.{AssertRow.AssertRow, DownstreamRow.DownstreamRow, InterfaceRow.InterfaceRow, Key.Key, RegisterRow.RegisterRow, RegisterState.RegisterState, SourceRow.SourceRow}, timer.TimerKind.TimerKind}}
use Rattle.pim_model.{specs.{Asserts.{assert_due, assert_forgotten, wins_again}, Downstream.prune_pending_due, Firing.keepalive_due, Hellos.hello_due, Messages.Message, Registers.register_due, Sets.is_winner, State.State, Tables.{Table, row_at, drop_at, change_row}, Timers.register_end, Upstream.join_timer_due}}
use Rattle.law_settled.{proofs.{ListLaws.by_cond, TableLaws.row_is_there, Ends.{Mark, Ends, Faulty, IsLate, is_later, always, shows_row, shows_in, shows, Keeps, part_removed, part_replaced, part_without, replaced_kept, replaced_kept_if, dropped_is_gone, later_is_gone, removed_is_gone, rows_kept, TableKeeps}, Parts.{Downstreams, Row, end_of, is_sound, part_of, timed_rows, with_rows, rows_there, end_of_each}}}

pub later_than : (m p d : ℕ) → p ≡ m → 1 ≤ d → nat_lt m (p + d) ≡ true
later_than m p d e h = lt-ltb m (p + d) (omega arith)

-- a timer of this kind and key no longer ends by the timestamp m
abbrev pub Gone : ℕ → TimerKind → Key → State → Type 0
Gone m kind k s = (x : ℕ) → nat_le x m ≡ true → shows kind (Ends k x) s ≡ true → ⊥

-- a change of the timer's end
pub record Fires (m : ℕ) (kind : TimerKind) (k : Key) (s t : State) : Type 0 where
  pub keeps : Keeps m s t
  pub gone : Gone m kind k t

-- ---- the row at its key goes, or another that ends later takes its place

module _ (m : ℕ) (s : State) (kind : TimerKind) (k : Key) where
  abbrev FiresWith : Table (Row (part_of kind)) → Type 0
  FiresWith t = Fires m kind k s (with_rows (part_of kind) s t)

  gone_with : (t : Table (Row (part_of kind)))
      → ((x : ℕ) → nat_le x m ≡ true → shows_in (end_of kind) (is_sound (part_of kind)) (Ends k x) t ≡ true → ⊥)
      → Gone m kind k (with_rows (part_of kind) s t)
  gone_with t gone x by e = grind (arith, shows_in, end_of, is_sound, part_of, rows_there)

  pub row_goes : FiresWith (drop_at (timed_rows kind s) k)
  row_goes = record {
    keeps = rows_kept m s (part_of kind) _ (part_without m (part_of kind) k (timed_rows kind s));
    gone = gone_with _ (λ x by. dropped_is_gone (end_of kind) (is_sound (part_of kind)) m k x (timed_rows kind s));
  }

  row_removed : FiresWith (change_row (λ (old : Row (part_of kind)). None) k (timed_rows kind s))
  row_removed = record {
    keeps = rows_kept m s (part_of kind) _ (part_removed m (part_of kind) k (timed_rows kind s));
    gone = gone_with _ (λ x by. removed_is_gone (end_of kind) (is_sound (part_of kind)) m k x by (timed_rows kind s));
  }

  pub row_replaced : (r : Row (part_of kind)) → is_sound (part_of kind) (k, r) ≡ true → IsLate m (part_of kind) r
      → FiresWith (change_row (λ old. Some r) k (timed_rows kind s))
  row_replaced r good late = record {
    keeps = rows_kept m s (part_of kind) _ (part_replaced m (part_of kind) k r (timed_rows kind s) good late);
    gone = gone_with _ (λ x by. later_is_gone (end_of kind) (is_sound (part_of kind)) m k x r by
        (end_of_each kind (λ end. is_later m (end r) ≡ true) late)
        (timed_rows kind s));
  }

  pub row_replaced_if : (b : Bool) (r : Row (part_of kind)) → is_sound (part_of kind) (k, r) ≡ true
      → IsLate m (part_of kind) r → FiresWith (change_row (λ old. cond b (Some r) None) k (timed_rows kind s))
  row_replaced_if true r good late = row_replaced r good late
  row_replaced_if false r good late = row_removed

-- ---- PIM's timers

module _ (m : ℕ) (s : State) (now : s.present ≡ m) (k : Key) where
  pub prune_pending_fires : (r : DownstreamRow) → row_at s.downstream k ≡ Some r
      → Fires m TimerKind.PrunePending k s (prune_pending_due s k r).0
  unfolding prune_pending_due
  prune_pending_fires r there =
      by_cond (λ (p : State × List Message). Fires m TimerKind.PrunePending k s p.0) k.rpt _ _
      (record {
        keeps = rows_kept m s Downstreams _ (sooner, (as_before, tt));
        gone =
            λ x by. later_is_gone (end_of TimerKind.PrunePending) always m k x (record r { pending = None }) by refl
            s.downstream;
      })
      (row_goes m s TimerKind.PrunePending k)
    where
      unset : Table DownstreamRow
      unset = change_row (λ (old : DownstreamRow). Some (record r { pending = None })) k s.downstream

      sooner : TableKeeps (end_of TimerKind.PrunePending) always m s.downstream unset
      sooner =
          replaced_kept (end_of TimerKind.PrunePending) always m k (record r { pending = None }) s.downstream refl refl

      -- the expiry is that of the row that was there
      shown_before : (mark : Mark)
          → shows_row (end_of TimerKind.DownstreamExpiry) always mark (k, record r { pending = None }) ≡ true
          → shows_row (end_of TimerKind.DownstreamExpiry) always mark (k, r) ≡ true
      shown_before (Ends q x) e = e
      shown_before Faulty e = e

      as_before : TableKeeps (end_of TimerKind.DownstreamExpiry) always m s.downstream unset
      as_before =
          replaced_kept_if (end_of TimerKind.DownstreamExpiry) always m k (Some (record r { pending = None }))
          s.downstream
          (λ mark by e. row_is_there (shows_row (end_of TimerKind.DownstreamExpiry) always mark) k s.downstream r
          (shown_before mark e) there)

  pub assert_fires : (r : AssertRow) → Fires m TimerKind.Assert k s (assert_due s k r).0
  unfolding assert_due assert_forgotten wins_again
  assert_fires r =
      by_cond (λ (p : State × List Message). Fires m TimerKind.Assert k s p.0) (is_winner (Some r)) _ _
      (row_replaced m s TimerKind.Assert k (record r { end = s.present + 177000 }) refl
      (later_than m s.present 177000 now (omega arith), tt))
      (row_goes m s TimerKind.Assert k)

  pub keepalive_fires : (r : SourceRow) → Fires m TimerKind.Keepalive k s (keepalive_due s k r)
  unfolding keepalive_due
  keepalive_fires r =
      row_replaced_if m s TimerKind.Keepalive k r.spt (record r { keepalive = None }) refl (refl, tt)

  registered : (state : RegisterState) → is_later m (register_end state) ≡ true
      → Fires m TimerKind.Register k s
      (record s { registers = change_row (λ (old : RegisterRow). Some (record { state = state })) k s.registers })
  registered state later = row_replaced m s TimerKind.Register k (record { state = state }) refl (later, tt)

  pub register_fires : (state : RegisterState) → Fires m TimerKind.Register k s (register_due s k state).0
  unfolding register_due
  register_fires RegisterState.Join = registered RegisterState.Join refl
  register_fires (RegisterState.JoinPending end) = registered RegisterState.Join refl
  register_fires (RegisterState.Prune end) = search (rules, registered, later_than)

  pub join_fires : Fires m TimerKind.Join k s (join_timer_due s k).0
  unfolding join_timer_due
  join_fires =
      row_replaced m s TimerKind.Join k (record { end = s.present + 60000 }) refl
      (later_than m s.present 60000 now (omega arith), tt)

  pub hello_fires : (r : InterfaceRow) → Fires m TimerKind.Hello k s (hello_due s k r).0
  unfolding hello_due
  hello_fires r =
      row_replaced m s TimerKind.Hello k (record r { hello_end = s.present + 30000 }) refl
      (later_than m s.present 30000 now (omega arith), tt)
