-- A group without a record has none after time passed.
use Rattle.std.{proofs.Common.{◌≡◌, ℕ, ◌+◌, ◌-◌, false, List, [], length, Option, Some, None, sym, subst, ap, arith}, specs.Option.option_map_or}
use Rattle.pim_types.{specs.{Keys.{star_key}, declared.{fact.{DownstreamRow.DownstreamRow, GroupRecordRow.GroupRecordRow, Key.Key}, timer.TimerKind.TimerKind}}}
use Rattle.pim_model.{specs.{Downstream.{downstream_expired, prune_pending_due}, Firing.{fire_all, fire_instant, fire_once, fire_row, fired, keepalive_due}, Hellos.{hello_due, neighbour_due}, Messages.Message, Querier.{general_query_due, group_record_due, group_repeat_due, other_querier_gone, querying_on, source_record_due, source_repeat_due, sources_sent}, Records.{GroupRecord, is_no_record, with_members, with_repeats_of_rows}, State.State, Step.advanced, Tables.{Table, drop_at, has_row}, Timers.{Ending, next_due, timers}, Upstream.{join_timer_due, override_timer_due}}}
use Rattle.law_settled.{proofs.{ListLaws.by_cond, RowLaws.{has_row_without, still_absent}, TurnLaws.kept_to_the_end}}
use Rattle.law_streams.{proofs.Same.{Rows, assert_due_same, register_due_same, settled_same}}

module _ (k : Key) where
  abbrev IsAbsent : Table GroupRecordRow → Type 0
  IsAbsent t = has_row t k ≡ false

  abbrev Absent : State → Type 0
  Absent s = IsAbsent s.group_records

  dropped : (q : Key) (t : Table GroupRecordRow) → IsAbsent t → IsAbsent (drop_at t q)
  dropped q t f = grind (arith, has_row_without)

  -- ---- what the expiry of a timer changes

  members_absent : (s : State) (i g : ℕ) (r : GroupRecord) → Absent s → Absent (with_members s i g r)
  unfolding with_members with_repeats_of_rows
  members_absent s i g r f =
      by_cond IsAbsent (is_no_record r) _ s.group_records (dropped (star_key i g) s.group_records f) f

  group_due : (s : State) (i g : ℕ) → Absent s → Absent (group_record_due s i g)
  unfolding group_record_due
  group_due s i g f =
      members_absent _ i g _ (still_absent k (λ (old : GroupRecordRow). Some (record { end = None })) (star_key i g) s.group_records f)

  source_due : (s : State) (i g src : ℕ) → Absent s → Absent (source_record_due s i g src)
  unfolding source_record_due
  source_due s i g src f = members_absent s i g _ f

  row_fires : {R : Type 0} (s : State) (o : Option R) (fire : R → State × List Message) → Absent s
      → ((r : R) → Absent (fire r).0) → Absent (option_map_or fire o (s, [])).0
  row_fires s o fire f h = grind arith

  by_table : (a b : Table GroupRecordRow) → a ≡ b → IsAbsent b → IsAbsent a
  by_table a b e f = subst IsAbsent (sym e) f

  pending_groups : (s : State) (q : Key) (d : DownstreamRow) → (prune_pending_due s q d).0.group_records ≡ s.group_records
  unfolding prune_pending_due
  pending_groups s q d = grind arith

  fired_keeps : (s : State) (kind : TimerKind) (q : Key) → Absent s → Absent (fired s kind q).0
  unfolding fired fire_row downstream_expired neighbour_due keepalive_due override_timer_due join_timer_due
      other_querier_gone querying_on group_repeat_due source_repeat_due sources_sent general_query_due hello_due
  fired_keeps s kind q f =
      grind (arith, group_due, source_due, row_fires, by_table, pending_groups, assert_due_same, register_due_same)

  module _ (w : ℕ) where
    once_keeps : (s : State) (d : Ending) → Absent s → Absent (fire_once w s d).0
    unfolding fire_once
    once_keeps s d f =
        let opened : State = record s { present = d.end } in
        by_table _ _ (ap (λ (x : Rows). x.groups) (settled_same s (fired opened d.timer.kind d.timer.key) w))
        (fired_keeps opened d.timer.kind d.timer.key f)

    instant_keeps : (s : State) (e : Ending) → Absent s → Absent (fire_instant w s e).0
    unfolding fire_instant
    instant_keeps s e f =
        kept_to_the_end (next_due e.end) (fire_once w) Absent (λ u d h there. once_keeps u d h) (length (timers s) + 1) s f

    pub none_comes : (s : State) (m : ℕ) → has_row s.group_records k ≡ false → has_row (advanced s w m).state.group_records k ≡ false
    unfolding advanced fire_all
    none_comes s m f =
        kept_to_the_end (next_due m) (fire_instant w) Absent (λ u d h there. instant_keeps u d h) (m + 2 - s.present) s f
