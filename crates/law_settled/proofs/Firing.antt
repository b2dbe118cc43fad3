-- the expiry of a timer leaves a fine state, and so does all that fires by a timestamp.
use Rattle.std.{proofs.Common.{◌≡◌, ℕ, ◌+◌, Bool, true, List, [], length, Option, Some, None, refl, arith}, specs.Option.option_map_or}
use Rattle.pim_types.{specs.{declared.{fact.{DownstreamRow.DownstreamRow, GroupRepeatRow.GroupRepeatRow, InterfaceRow.InterfaceRow, Key.Key, QuerierRow.QuerierRow, RegisterRow.RegisterRow, SourceRow.SourceRow}, timer.TimerKind.TimerKind}, Keys.{group_in, iface_in, source_in, star_key}}, proofs.Keys.same_key_same}
use Rattle.pim_model.{specs.{Asserts.assert_due, Downstream.{downstream_expired, prune_pending_due}, Firing.{fire_all, fire_instant, fire_once, fire_row, fired, keepalive_due, settled, silent, startup_left}, Hellos.{hello_due, neighbour_due}, Messages.Message, Querier.{general_query_due, group_record_due, group_repeat_due, source_record_due}, Records.{group_expired, record_of, source_expired}, Registers.register_due, State.State, Step.advanced, Tables.row_at, Timers.{Ending, next_due, timers}, Upstream.{join_timer_due, override_timer_due}}}
use Rattle.law_settled.{proofs.{RowLaws.has_row_replaced, ListLaws.by_cond, TurnLaws.kept_to_the_end, Parts.{Downstreams, GroupRecords, Interfaces, JoinTimers, Neighbours, OverrideTimers, Part, Sources}, Asserts.assert_due_fine, Forwarding.register_due_fine, FineTables.{good_row, fine_replaced_by}, LateEnds.late_by, Querier.{general_query_fine, group_repeat_fine, other_gone_fine, source_repeat_fine}, Records.{group_expired_good, members_fine, record_good, source_expired_good}, FineStates.{Lateness, Good, IsFine, FineAt, with_interfaces, without_row, with_row_for, with_row_for_if}, Upstream.settled_fine}}

module _ (m : ℕ) (late up : ℕ → Bool) (lateness : Lateness m late) where
  abbrev Leaves : State × List Message → Type 0
  Leaves p = IsFine m late up p.0

  row_fires : {R : Type 0} (s : State) (fire : R → State × List Message) (o : Option R)
      → ((r : R) → o ≡ Some r → Leaves (fire r)) → IsFine m late up s
      → Leaves (option_map_or fire o (s, []))
  row_fires s fire o there f = grind arith

  pending_due_fine : (s : State) (k : Key) (r : DownstreamRow) → row_at s.downstream k ≡ Some r → IsFine m late up s
      → Leaves (prune_pending_due s k r)
  unfolding prune_pending_due
  pending_due_fine s k r there f =
      by_cond Leaves k.rpt _ _
      (with_row_for m late up Downstreams tt s f k (record r { pending = None })
      (λ old g. ((good_row (Good late up Downstreams) s.downstream k r (f.tables Downstreams) there).0, tt, g.2)))
      (without_row m late up Downstreams tt s f k)

  keepalive_due_fine : (s : State) (k : Key) (r : SourceRow) → IsFine m late up s
      → IsFine m late up (keepalive_due s k r)
  unfolding keepalive_due
  keepalive_due_fine s k r f =
      with_row_for_if m late up Sources tt s f r.spt k (record r { keepalive = None }) (λ set old g. (tt, set))

  group_due_fine : (s : State) (i g : ℕ) → IsFine m late up s → IsFine m late up (group_record_due s i g)
  unfolding group_record_due
  group_due_fine s i g f =
      members_fine m late up _ i g (group_expired s.present (record_of s i g))
      (group_expired_good late (up i ≡ true) s.present (record_of s i g) (record_good m late up s i g f))
      (with_row_for m late up GroupRecords tt s f (star_key i g) (record { end = None })
      (λ old h. (same_key_same (star_key i g), tt, h.2)))

  source_due_fine : (s : State) (i g src : ℕ) → IsFine m late up s → IsFine m late up (source_record_due s i g src)
  unfolding source_record_due
  source_due_fine s i g src f =
      members_fine m late up s i g (source_expired src (record_of s i g))
      (source_expired_good late (up i ≡ true) src (record_of s i g) (record_good m late up s i g f)) f

  hello_due_fine : (s : State) (k : Key) (r : InterfaceRow) → IsFine m late up s → Leaves (hello_due s k r)
  unfolding hello_due
  hello_due_fine s k r f =
      let row : InterfaceRow = record r { hello_end = s.present + 30000 } in
      with_interfaces m late up s f _ (λ q. has_row_replaced q row k s.interfaces)
      (fine_replaced_by (Good late up Interfaces) k row
      (λ old g. late_by m late lateness s.present 30000 f.present (omega arith)) s.interfaces (f.tables Interfaces))

  join_due_fine : (s : State) (k : Key) → IsFine m late up s → Leaves (join_timer_due s k)
  unfolding join_timer_due
  join_due_fine s k f =
      with_row_for m late up JoinTimers tt s f k (record { end = s.present + 60000 })
      (λ old g. late_by m late lateness s.present 60000 f.present (omega arith))

  pub fired_fine : (s : State) (kind : TimerKind) (k : Key) → IsFine m late up s → Leaves (fired s kind k)
  unfolding fired fire_row neighbour_due downstream_expired override_timer_due
  fired_fine s TimerKind.Neighbour k f =
      without_row m late up Neighbours tt s f k
  fired_fine s TimerKind.PrunePending k f =
      row_fires s (prune_pending_due s k) (row_at s.downstream k) (λ r there. pending_due_fine s k r there f) f
  fired_fine s TimerKind.DownstreamExpiry k f =
      without_row m late up Downstreams tt s f k
  fired_fine s TimerKind.GroupRecord k f = group_due_fine s (iface_in k) (group_in k) f
  fired_fine s TimerKind.SourceRecord k f = source_due_fine s (iface_in k) (group_in k) (source_in k) f
  fired_fine s TimerKind.Assert k f =
      row_fires s (assert_due s k) (row_at s.asserts k) (λ r there. assert_due_fine m late up lateness s k r f) f
  fired_fine s TimerKind.Keepalive k f =
      row_fires s (λ r. silent (keepalive_due s k r)) (row_at s.sources k) (λ r there. keepalive_due_fine s k r f) f
  fired_fine s TimerKind.Register k f =
      row_fires s (λ (r : RegisterRow). register_due s k r.state) (row_at s.registers k)
      (λ r there. register_due_fine m late up lateness s k r.state f) f
  fired_fine s TimerKind.Override k f =
      without_row m late up OverrideTimers tt s f k
  fired_fine s TimerKind.Join k f = join_due_fine s k f
  fired_fine s TimerKind.OtherQuerier k f = other_gone_fine m late up lateness s (iface_in k) f
  fired_fine s TimerKind.GroupRepeat k f =
      row_fires s (λ (r : GroupRepeatRow). group_repeat_due s (iface_in k) (group_in k) r.left)
      (row_at s.group_repeats k)
      (λ r there. group_repeat_fine m late up lateness s (iface_in k) (group_in k) r.left f) f
  fired_fine s TimerKind.SourceRepeat k f = source_repeat_fine m late up lateness s (iface_in k) (group_in k) f
  fired_fine s TimerKind.GeneralQuery k f =
      row_fires s (λ (r : QuerierRow). general_query_due s (iface_in k) (startup_left r.role)) (row_at s.queriers k)
      (λ r there. general_query_fine m late up lateness s (iface_in k) (startup_left r.role) f) f
  fired_fine s TimerKind.Hello k f =
      row_fires s (hello_due s k) (row_at s.interfaces k) (λ r there. hello_due_fine s k r f) f

-- ---- at any moment

abbrev pub any : ℕ → Bool
any n = true

pub any_late : (m : ℕ) → Lateness m any
any_late m = record { later = λ n h. refl; up = λ a b h e. refl }

-- fine, whatever ends
abbrev pub IsSound : (ℕ → Bool) → State → Type 0
IsSound up s = IsFine s.present any up s

pub at_moment : (m p : ℕ) (late up : ℕ → Bool) (s : State) → IsFine m late up s
    → IsFine p late up (record s { present = p })
at_moment m p late up s f = record { firm = f.firm; present = refl; ups = f.ups; tables = go }
  where
    go : (part : Part) → FineAt p late up part (record s { present = p })
    go Interfaces = f.tables Interfaces
    go part = f.tables part

pub at_present : (m : ℕ) (up : ℕ → Bool) (s : State) → IsFine m any up s → IsSound up s
at_present m up s f = grind arith

pub once_sound : (up : ℕ → Bool) (w : ℕ) (s : State) (e : Ending) → IsSound up s → IsSound up (fire_once w s e).0
unfolding fire_once
once_sound up w s e f =
    let opened : State = record s { present = e.end } in
    let change : State × List Message = fired opened e.timer.kind e.timer.key in
    at_present e.end up (settled s change w).0
    (settled_fine e.end any up (any_late e.end) s change w
    (fired_fine e.end any up (any_late e.end) opened e.timer.kind e.timer.key (at_moment s.present e.end any up s f)))

pub instant_sound : (up : ℕ → Bool) (w : ℕ) (s : State) (e : Ending) → IsSound up s → IsSound up (fire_instant w s e).0
unfolding fire_instant
instant_sound up w s e f =
    kept_to_the_end (next_due e.end) (fire_once w) (IsSound up) (λ t d g there. once_sound up w t d g)
    (length (timers s) + 1) s f

pub firing_sound : (up : ℕ → Bool) (w m : ℕ) (s : State) → IsSound up s → IsSound up (fire_all w m s).0
unfolding fire_all
firing_sound up w m s f =
    kept_to_the_end (next_due m) (fire_instant w) (IsSound up) (λ t e g there. instant_sound up w t e g) _ s f

pub advanced_sound : (up : ℕ → Bool) (w m : ℕ) (s : State) → IsSound up s → IsSound up (advanced s w m).state
unfolding advanced
advanced_sound up w m s f =
    at_present m up (record ((fire_all w m s).0) { present = m })
    (at_moment ((fire_all w m s).0).present m any up (fire_all w m s).0 (firing_sound up w m s f))
