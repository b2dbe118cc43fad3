-- The keys of asserts, of what makes them possible, and of sources: none comes by what follows of a change, or by time.
use Rattle.std.{proofs.Common.{◌≡◌, ℕ, ◌+◌, ◌-◌, Bool, not, List, [], length, Option, Some, None, sym, ap, subst, arith}, specs.{List.AllByRecursion, Option.option_map_or}}
use Rattle.pim_types.{specs.{Keys.{group_in, iface_in, same_key, source_in, star_key}, declared.{fact.{AssertRow.AssertRow, DownstreamRow.DownstreamRow, GroupRecordRow.GroupRecordRow, Key.Key, RegisterState.RegisterState, SourceRow.SourceRow}, timer.TimerKind.TimerKind}}}
use Rattle.pim_model.{specs.{Asserts.{assert_due, assert_forgotten, wins_again, without_spt, without_spt_bit}, Clearing.clear, Downstream.{downstream_expired, prune_pending_due}, Firing.{fire_all, fire_instant, fire_once, fire_row, fired, keepalive_due, settled}, Hellos.{hello_due, neighbour_due}, Messages.Message, Querier.{general_query_due, group_record_due, group_repeat_due, other_querier_gone, querying_on, source_record_due, source_repeat_due, sources_sent}, Records.{GroupRecord, is_no_record, with_members, with_repeats_of_rows}, Registers.{register_due, settle_registers}, State.State, Step.advanced, Tables.{Table, change_row, drop_at, drop_where, put, row_at}, Timers.{Ending, next_due, timers}, Upstream.{join_timer_due, override_timer_due, upstream}, Writing.write_all}}
use Rattle.law_settled.{proofs.{ListLaws.{by_cond, each_filter, each_filter_map}, RowLaws.{changed_key, each_put}, SettlingLaws.kept_by_clearing, TurnLaws.kept_to_the_end, Unsettled.{Untold, telling_leaves}}}

-- the tables in question
pub record Held : Type 0 where
  pub asserts : Table AssertRow
  pub downstream : Table DownstreamRow
  pub groups : Table GroupRecordRow
  pub sources : Table SourceRow

abbrev pub held : State → Held
held s = record { asserts = s.asserts; downstream = s.downstream; groups = s.group_records; sources = s.sources }

abbrev pub Holds : State → State → Type 0
Holds s t = held t ≡ held s

-- the rows of a table are under such keys
abbrev pub Under : {R : Type 0} → (Key → Type 0) → Table R → Type 0
Under P t = AllByRecursion (λ e. P e.0) t

module _ (P : Key → Type 0) {R : Type 0} where
  pub under_where : (test : Key → Bool) (t : Table R) → Under P t → Under P (drop_where test t)
  unfolding drop_where
  under_where test t f = each_filter (λ e. P e.0) (λ e. not (test e.0)) t f

  pub under_at : (k : Key) (t : Table R) → Under P t → Under P (drop_at t k)
  unfolding drop_at
  under_at k t f = under_where (same_key k) t f

  pub under_put : (t : Table R) (k : Key) (r : R) → P k → Under P t → Under P (put t k r)
  under_put t k r p f = each_put k r (λ e. P e.0) p t f

  pub under_changed : (change : R → Option R) (k : Key) (t : Table R) → Under P t → Under P (change_row change k t)
  unfolding change_row
  under_changed change k t f =
      each_filter_map (λ e. P e.0) (λ e. P e.0) _ (λ x y e p. subst P (sym (changed_key change k x y e)) p) t f

-- P of the keys of asserts, downstream rows and group records, Q of those of sources
module _ (P Q : Key → Type 0) where
  pub record Keyed (h : Held) : Type 0 where
    pub asserts : Under P h.asserts
    pub downstream : Under P h.downstream
    pub groups : Under P h.groups
    pub sources : Under Q h.sources

  abbrev pub Kept : State → Type 0
  Kept s = Keyed (held s)

  pub kept_same : (s t : State) → Holds s t → Kept s → Kept t
  kept_same s t e f = subst Keyed (sym e) f

  pub kept_asserts : (s : State) (t : Table AssertRow) → Under P t → Kept s → Kept (record s { asserts = t })
  kept_asserts s t g f = record { asserts = g; downstream = f.downstream; groups = f.groups; sources = f.sources }

  pub kept_downstream : (s : State) (t : Table DownstreamRow) → Under P t → Kept s → Kept (record s { downstream = t })
  kept_downstream s t g f = record { asserts = f.asserts; downstream = g; groups = f.groups; sources = f.sources }

  pub kept_groups : (s : State) (t : Table GroupRecordRow) → Under P t → Kept s → Kept (record s { group_records = t })
  kept_groups s t g f = record { asserts = f.asserts; downstream = f.downstream; groups = g; sources = f.sources }

  pub kept_sources : (s : State) (t : Table SourceRow) → Under Q t → Kept s → Kept (record s { sources = t })
  kept_sources s t g f = record { asserts = f.asserts; downstream = f.downstream; groups = f.groups; sources = g }

  -- ---- what follows of a change

  clear_kept : (o s : State) → Kept s → Kept (clear o s).0
  unfolding settle_registers assert_forgotten without_spt_bit
  clear_kept o s f =
      kept_by_clearing Kept (λ t k g. kept_asserts t _ (under_at P k t.asserts g.asserts) g)
      (λ t k g. kept_sources t _ (under_changed Q without_spt k t.sources g.sources) g) o s
      (record { asserts = f.asserts; downstream = f.downstream; groups = f.groups; sources = f.sources })

upstream_holds : (o a : State) (w : ℕ) → Holds a (upstream o a w).0
upstream_holds o a w =
    ap (λ (u : Untold). let h : Held = record {
      asserts = u.asserts;
      downstream = u.unsettled.downstream;
      groups = u.unsettled.group_records;
      sources = u.sources;
    } in h) (telling_leaves o a w)

module _ (P Q : Key → Type 0) where
  pub settled_kept : (o : State) (change : State × List Message) (w : ℕ) → Kept P Q change.0 → Kept P Q (settled o change w).0
  unfolding settled write_all
  settled_kept o change w f =
      let after : State × List Message = clear o change.0 in
      kept_same P Q after.0 (upstream o after.0 w).0 (upstream_holds o after.0 w) (clear_kept P Q o change.0 f)

  -- ---- the ends of rows

  members_kept : (s : State) (i g : ℕ) (r : GroupRecord) → Kept P Q s → Kept P Q (with_members s i g r)
  unfolding with_members with_repeats_of_rows
  members_kept s i g r f = record {
    asserts = f.asserts;
    downstream = f.downstream;
    groups = by_cond (Under P) (is_no_record r) _ s.group_records (under_at P (star_key i g) s.group_records f.groups) f.groups;
    sources = f.sources;
  }

  pending_kept : (s : State) (k : Key) (r : DownstreamRow) → Kept P Q s → Kept P Q (prune_pending_due s k r).0
  unfolding prune_pending_due
  pending_kept s k r f =
      by_cond (λ (p : State × List Message). Kept P Q p.0) k.rpt _ _
      (kept_downstream P Q s _ (under_changed P (λ (old : DownstreamRow). Some (record r { pending = None })) k s.downstream f.downstream) f)
      (kept_downstream P Q s _ (under_at P k s.downstream f.downstream) f)

  assert_due_kept : (s : State) (k : Key) (r : AssertRow) → Kept P Q s → Kept P Q (assert_due s k r).0
  unfolding assert_due wins_again assert_forgotten
  assert_due_kept s k r f =
      by_cond (λ (p : State × List Message). Kept P Q p.0) _ _ _
      (kept_asserts P Q s _ (under_changed P _ k s.asserts f.asserts) f)
      (kept_asserts P Q s _ (under_at P k s.asserts f.asserts) f)

  row_fires : {R : Type 0} (s : State) (fire : R → State × List Message) (o : Option R) → Kept P Q s
      → ((r : R) → Kept P Q (fire r).0) → Kept P Q (option_map_or fire o (s, [])).0
  row_fires s fire o f g = grind arith

  register_due_holds : (s : State) (k : Key) (state : RegisterState) → Holds s (register_due s k state).0
  unfolding register_due
  register_due_holds s k state = grind arith

  group_due_kept : (s : State) (i g : ℕ) → Kept P Q s → Kept P Q (group_record_due s i g)
  unfolding group_record_due
  group_due_kept s i g f =
      members_kept _ i g _
      (kept_groups P Q s _
      (under_changed P (λ (old : GroupRecordRow). Some (record { end = None })) (star_key i g) s.group_records f.groups) f)

  source_due_kept : (s : State) (i g src : ℕ) → Kept P Q s → Kept P Q (source_record_due s i g src)
  unfolding source_record_due
  source_due_kept s i g src f = members_kept s i g _ f

  pub fired_kept : (s : State) (kind : TimerKind) (k : Key) → Kept P Q s → Kept P Q (fired s kind k).0
  unfolding fired fire_row downstream_expired neighbour_due keepalive_due override_timer_due join_timer_due
      other_querier_gone querying_on group_repeat_due source_repeat_due sources_sent general_query_due hello_due
  fired_kept s TimerKind.Neighbour k f = f
  fired_kept s TimerKind.PrunePending k f = row_fires s _ (row_at s.downstream k) f (λ r. pending_kept s k r f)
  fired_kept s TimerKind.DownstreamExpiry k f = kept_downstream P Q s _ (under_at P k s.downstream f.downstream) f
  fired_kept s TimerKind.GroupRecord k f = group_due_kept s (iface_in k) (group_in k) f
  fired_kept s TimerKind.SourceRecord k f = source_due_kept s (iface_in k) (group_in k) (source_in k) f
  fired_kept s TimerKind.Assert k f = row_fires s _ (row_at s.asserts k) f (λ r. assert_due_kept s k r f)
  fired_kept s TimerKind.Keepalive k f =
      row_fires s _ (row_at s.sources k) f (λ r. kept_sources P Q s _ (under_changed Q _ k s.sources f.sources) f)
  fired_kept s TimerKind.Register k f =
      row_fires s _ (row_at s.registers k) f (λ r. kept_same P Q s (register_due s k r.state).0 (register_due_holds s k r.state) f)
  fired_kept s TimerKind.Override k f = f
  fired_kept s TimerKind.Join k f = f
  fired_kept s TimerKind.OtherQuerier k f = f
  fired_kept s TimerKind.GroupRepeat k f = row_fires s _ (row_at s.group_repeats k) f (λ r. f)
  fired_kept s TimerKind.SourceRepeat k f = f
  fired_kept s TimerKind.GeneralQuery k f = row_fires s _ (row_at s.queriers k) f (λ r. f)
  fired_kept s TimerKind.Hello k f = row_fires s _ (row_at s.interfaces k) f (λ r. f)

  once_kept : (w : ℕ) (s : State) (e : Ending) → Kept P Q s → Kept P Q (fire_once w s e).0
  unfolding fire_once
  once_kept w s e f = grind (arith, settled_kept, fired_kept)

  instant_kept : (w : ℕ) (s : State) (e : Ending) → Kept P Q s → Kept P Q (fire_instant w s e).0
  unfolding fire_instant
  instant_kept w s e f =
      kept_to_the_end (next_due e.end) (fire_once w) (Kept P Q) (λ t d h there. once_kept w t d h) (length (timers s) + 1) s f

  pub time_keeps : (s : State) (w moment : ℕ) → Kept P Q s → Kept P Q (advanced s w moment).state
  unfolding advanced fire_all
  time_keeps s w moment f =
      kept_to_the_end (next_due moment) (fire_instant w) (Kept P Q) (λ t d h there. instant_kept w t d h) (moment + 2 - s.present) s f
