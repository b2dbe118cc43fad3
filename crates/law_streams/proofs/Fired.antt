-- Rows that are asked for stay so when timers fire.
use Rattle.std.{proofs.Common.{◌≡◌, ℕ, ◌+◌, ◌-◌, List, [], length, Option, Some, sym, subst, arith}, specs.Option.option_map_or}
use Rattle.pim_types.{specs.{Keys.{group_in, iface_in, source_in}, declared.{fact.Key.Key, timer.TimerKind.TimerKind}}}
use Rattle.pim_model.{specs.{Asserts.assert_due, Registers.register_due, Downstream.downstream_expired, Firing.{fire_all, fire_instant, fire_once, fire_row, fired, keepalive_due, settled}, Hellos.{hello_due, neighbour_due}, Messages.Message, Querier.{general_query_due, group_repeat_due, other_querier_gone, querying_on, source_repeat_due, sources_sent}, State.State, Step.advanced, Tables.row_at, Timers.{Ending, next_due, timers}, Upstream.{join_timer_due, override_timer_due}}}
use Rattle.law_settled.{proofs.{TurnLaws.kept_to_the_end, FineTables.fine_drop_at}}
use Rattle.law_streams.{proofs.{CausesAsks.{IsAsked, JoinAsked, RowsAsked, pending_asked}, Members.{group_due_asked, source_due_asked}, Same.{Same, assert_due_same, register_due_same, settled_same}}}

row_fires : {R : Type 0} (P : State → Type 0) (s : State) (o : Option R) (fire : R → State × List Message) → P s
    → ((r : R) → o ≡ Some r → P (fire r).0) → P (option_map_or fire o (s, [])).0
row_fires P s o fire f g = grind arith

module _ (A : ℕ → ℕ → ℕ → ℕ → Type 0) where
  pub all_same : (s t : State) → Same s t → IsAsked A s → IsAsked A t
  all_same s t e f = subst (RowsAsked A) (sym e) f

  fired_asked : (s : State) (kind : TimerKind) (k : Key) → IsAsked A s → IsAsked A (fired s kind k).0
  unfolding fired fire_row downstream_expired neighbour_due keepalive_due override_timer_due join_timer_due
      other_querier_gone querying_on group_repeat_due source_repeat_due sources_sent general_query_due hello_due
  fired_asked s TimerKind.PrunePending k f =
      row_fires (IsAsked A) s (row_at s.downstream k) _ f (λ r there. pending_asked A s k r there f)
  fired_asked s TimerKind.DownstreamExpiry k f =
      record { joins = fine_drop_at (JoinAsked A) s.downstream k f.joins; groups = f.groups; sources = f.sources }
  fired_asked s TimerKind.GroupRecord k f = group_due_asked A (iface_in k) (group_in k) s f
  fired_asked s TimerKind.SourceRecord k f = source_due_asked A (iface_in k) (group_in k) s (source_in k) f
  fired_asked s TimerKind.Assert k f =
      row_fires (IsAsked A) s (row_at s.asserts k) _ f
      (λ r there. all_same s (assert_due s k r).0 (assert_due_same s k r) f)
  fired_asked s TimerKind.Register k f =
      row_fires (IsAsked A) s (row_at s.registers k) _ f
      (λ r there. all_same s (register_due s k r.state).0 (register_due_same s k r.state) f)
  fired_asked s TimerKind.Keepalive k f = row_fires (IsAsked A) s (row_at s.sources k) _ f (λ r there. f)
  fired_asked s TimerKind.GroupRepeat k f = row_fires (IsAsked A) s (row_at s.group_repeats k) _ f (λ r there. f)
  fired_asked s TimerKind.GeneralQuery k f = row_fires (IsAsked A) s (row_at s.queriers k) _ f (λ r there. f)
  fired_asked s TimerKind.Hello k f = row_fires (IsAsked A) s (row_at s.interfaces k) _ f (λ r there. f)
  fired_asked s TimerKind.Neighbour k f = f
  fired_asked s TimerKind.Override k f = f
  fired_asked s TimerKind.Join k f = f
  fired_asked s TimerKind.OtherQuerier k f = f
  fired_asked s TimerKind.SourceRepeat k f = f

  pub settled_asked : (o : State) (change : State × List Message) (w : ℕ) → IsAsked A change.0
      → IsAsked A (settled o change w).0
  settled_asked o change w f = all_same change.0 (settled o change w).0 (settled_same o change w) f

  once_asked : (w : ℕ) (s : State) (e : Ending) → IsAsked A s → IsAsked A (fire_once w s e).0
  unfolding fire_once
  once_asked w s e f = settled_asked s _ w (fired_asked (record s { present = e.end }) e.timer.kind e.timer.key f)

  instant_asked : (w : ℕ) (s : State) (e : Ending) → IsAsked A s → IsAsked A (fire_instant w s e).0
  unfolding fire_instant
  instant_asked w s e f =
      kept_to_the_end (next_due e.end) (fire_once w) (IsAsked A) (λ t d h there. once_asked w t d h)
      (length (timers s) + 1) s f

  pub advanced_asked : (s : State) (w moment : ℕ) → IsAsked A s → IsAsked A (advanced s w moment).state
  unfolding advanced fire_all
  advanced_asked s w moment f =
      kept_to_the_end (next_due moment) (fire_instant w) (IsAsked A) (λ t d h there. instant_asked w t d h)
      (moment + 2 - s.present) s f
