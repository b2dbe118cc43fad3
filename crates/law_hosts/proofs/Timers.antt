-- A group timer that runs on: what leaves the record of a group as it is.
use Rattle.std.{proofs.{lemmas.Bool.false_from_ne_true, Common.{◌≡◌, ◌∙◌, ℕ, ◌+◌, ◌-◌, ◌≤◌, ◌&&◌, ◌==◌, nat_le, Bool, true, false, cond, is_none, is_some, List, [], ◌∷◌, map, length, Option, Some, refl, sym, ap, subst, arith, eqb-true, eq-eqb}}, specs.{Cmp.{first_so, Derive.both_true}, List.AllByRecursion, Option.option_map_or}}
use Rattle.pim_types.{specs.{Keys.{group_in, iface_in, same_key, star_key}, declared.{fact.{DownstreamRow.DownstreamRow, GroupRecordRow.GroupRecordRow, Key.Key}, timer.TimerKind.TimerKind}}, proofs.Keys.equal_keys}
use Rattle.igmp_wire.{specs.Values.Record}
use Rattle.pim_model.{specs.{Downstream.{downstream_expired, prune_pending_due}, Firing.{fire_all, fire_instant, fire_once, fire_row, fired, keepalive_due}, Hellos.{hello_due, neighbour_due}, Messages.Message, Querier.{each_in_turn, general_query_due, group_membership_interval, group_record_due, group_repeat_due, is_querier, lower_group, lower_sources, lowered, other_querier_gone, query_asked, query_group, query_sources, querying_on, record_seen, report_seen, send_sources, source_record_due, source_repeat_due, sources_sent}, Records.{Asked, GroupRecord, apply_record, is_no_record, record_of, source_expired, with_members, with_record, with_repeats_of_rows}, State.State, Step.advanced, Tables.{Table, is_empty_list, row_at, same_option}, Timers.{Ending, next_due, timers}, Upstream.{join_timer_due, override_timer_due}}}
use Rattle.law_settled.{specs.Ready.IsLawful, proofs.{Ends.{Ends, shows}, ListLaws.{by_cond, each_filter}, RowLaws.{row_change_away, row_drop_away, row_put_away}, TimerLaws.{IsNext, is_next}, TurnLaws.{kept_in_turn, kept_to_the_end}, LawfulFiring.one_firing_is_lawful}}
use Rattle.law_streams.{proofs.{Same.{Rows, assert_due_same, register_due_same, settled_same}, Lasts.only_row}}
use Rattle.igmp_older.{specs.Open.runs_until}
use Rattle.law_hosts.{proofs.Firings.{not_yet, key_here, star_there}}

module _ (i g : ℕ) where
  -- the row of the group's record
  abbrev pub row : State → Option GroupRecordRow
  row s = row_at s.group_records (star_key i g)

  pub same_row : (s u : State) → u.group_records ≡ s.group_records → row u ≡ row s
  same_row s u e = ap (λ (rows : Table GroupRecordRow). row_at rows (star_key i g)) e

  -- the group in question, on its interface
  abbrev pub here : ℕ → ℕ → Bool
  here j h = (j == i) && (h == g)

  pub keys_here : (j h : ℕ) → star_key j h ≡ star_key i g → here j h ≡ true
  keys_here j h e = both_true (eq-eqb j i (ap (λ (k : Key). iface_in k) e)) (eq-eqb h g (ap (λ (k : Key). group_in k) e))

  apart : (j h : ℕ) → here j h ≡ false → star_key j h ≡ star_key i g → ⊥
  apart j h off e = let no : here j h ≡ true = keys_here j h e in cc

  -- ---- a record that is written

  no_timer : (r : GroupRecord) → is_no_record r ≡ true → is_none r.timer ≡ true
  no_timer r e = first_so (is_none r.timer) (is_empty_list r.members) e

  -- sources that are written of another group, or of one with a group timer, leave the row
  members_row : (j h : ℕ) (s : State) (r : GroupRecord) → (here j h ≡ true → is_none r.timer ≡ false) → row (with_members s j h r) ≡ row s
  unfolding with_members with_repeats_of_rows
  members_row j h s r timed = grind (arith, row_drop_away, keys_here, no_timer)

  record_row : (j h : ℕ) → here j h ≡ false → (s : State) (r : GroupRecord) → row (with_record s j h r) ≡ row s
  unfolding with_record
  record_row j h off s r = grind (arith, members_row, row_put_away, apart)

  -- ---- timers that are lowered

  abbrev entry : Key → ℕ → Key × GroupRecordRow → Key × GroupRecordRow
  entry k q e = cond (same_key k e.0) (let p : Key × GroupRecordRow = (e.0, record { end = lowered q (e.1).end }) in p) e

  lower_away : (q : ℕ) (k : Key) → (k ≡ star_key i g → ⊥) → (rows : Table GroupRecordRow)
      → row_at (map (entry k q) rows) (star_key i g) ≡ row_at rows (star_key i g)
  unfolding row_at
  lower_away q k off [] = refl
  lower_away q k off (e ∷ rows) = go (same_key k e.0) (same_key (star_key i g) e.0) refl refl (lower_away q k off rows)
    where
      go : (b c : Bool) → same_key k e.0 ≡ b → same_key (star_key i g) e.0 ≡ c
          → row_at (map (entry k q) rows) (star_key i g) ≡ row_at rows (star_key i g)
          → (let x : Key × GroupRecordRow = cond b (let p : Key × GroupRecordRow = (e.0, record { end = lowered q (e.1).end }) in p) e in
          cond (same_key (star_key i g) x.0) (Some x.1) (row_at (map (entry k q) rows) (star_key i g)))
          ≡ cond c (Some e.1) (row_at rows (star_key i g))
      go true true eb ec later = absurd (off (equal_keys k e.0 eb ∙ sym (equal_keys (star_key i g) e.0 ec)))
      go true false eb ec later = rw ec later
      go false true eb ec later = rw ec refl
      go false false eb ec later = rw ec later

  pub lower_row : (j h q : ℕ) → here j h ≡ false → (s : State) → row (lower_group s j h q) ≡ row s
  unfolding lower_group
  lower_row j h q off s = lower_away q (star_key j h) (apart j h off) s.group_records

  pub lower_sources_row : (j h q : ℕ) (sources : List ℕ) (s : State) → row (lower_sources s j h sources q) ≡ row s
  unfolding lower_sources
  lower_sources_row j h q sources s = refl

  -- ---- a report of another group

  pub asked_groups : (j h : ℕ) (s : State) (asked : List ℕ) → (query_sources s j h asked).0.group_records ≡ s.group_records
  unfolding query_sources send_sources sources_sent lower_sources
  asked_groups j h s asked = grind arith

  asked_row : (j h : ℕ) → here j h ≡ false → (s : State) (a : Asked) → row (query_asked j h s a).0 ≡ row s
  unfolding query_asked query_group
  asked_row j h off s a = grind (arith, lower_row, same_row, asked_groups)

  pub seen_row : (j : ℕ) (s : State) (r : Record) → here j r.group ≡ false → row (record_seen j s r).0 ≡ row s
  unfolding record_seen
  seen_row j s r off =
      let full : ℕ = s.present + group_membership_interval s j in
      let p : GroupRecord × List Asked = apply_record full (record_of s j r.group) r.type r.sources in
      let w : State = with_record s j r.group p.0 in
      let written : row w ≡ row s = record_row j r.group off s p.0 in
      by_cond (λ (x : State × List Message). row x.0 ≡ row s) (is_querier s j) (each_in_turn (query_asked j r.group) w p.1) (w, [])
      (kept_in_turn (query_asked j r.group) (λ u. row u ≡ row s) (λ u a e. asked_row j r.group off u a ∙ e) p.1 w written) written

  each_row : (j : ℕ) (rs : List Record) → AllByRecursion (λ (r : Record). here j r.group ≡ false) rs → (s : State)
      → row (each_in_turn (record_seen j) s rs).0 ≡ row s
  unfolding each_in_turn
  each_row j [] off s = refl
  each_row j (r ∷ rs) off s = each_row j rs off.1 (record_seen j s r).0 ∙ seen_row j s r off.0

  pub report_row : (j : ℕ) (s : State) (records : List Record) → AllByRecursion (λ (r : Record). here j r.group ≡ false) records
      → row (report_seen s j records).0 ≡ row s
  unfolding report_seen
  report_row j s records off = grind (arith, each_row, each_filter)

-- ---- time that passes

module _ (t i g m : ℕ) (before : nat_le t m ≡ false) (r : GroupRecordRow) (runs : runs_until t r.end ≡ true) where
  abbrev Row : State → Type 0
  Row s = row i g s ≡ Some r

  pub record Kept (s : State) : Type 0 where
    pub there : Row s
    pub lawful : IsLawful s

  same_end : (s : State) (k : Key) → k ≡ star_key i g → (n : ℕ) → n ≤ m → Kept s → shows TimerKind.GroupRecord (Ends k n) s ≡ true → ⊥
  same_end s k e n low f shown =
      let at : shows TimerKind.GroupRecord (Ends (star_key i g) n) s ≡ true =
      subst (λ (x : Key). shows TimerKind.GroupRecord (Ends x n) s ≡ true) e shown in
      not_yet t m before r.end n low runs
      (only_row (star_key i g) (λ e. same_option (e.1).end (Some n)) r s.group_records ((f.lawful).ordered).group_records f.there at
      (λ x same at passes. subst (λ (y : GroupRecordRow). same_option y.end (Some n) ≡ true) same passes))

  group_elsewhere : (s : State) (k : Key) (n : ℕ) → n ≤ m → Kept s → shows TimerKind.GroupRecord (Ends k n) s ≡ true
      → here i g (iface_in k) (group_in k) ≡ false
  group_elsewhere s k n low f shown =
      false_from_ne_true (here i g (iface_in k) (group_in k))
      (λ e. same_end s k (sym (star_there s k n f.lawful shown) ∙ key_here i g k e) n low f shown)

  -- ---- what the expiry of a timer changes

  row_fires : {R : Type 0} (s : State) (o : Option R) (fire : R → State × List Message) → Row s
      → ((r : R) → Row (fire r).0) → Row (option_map_or fire o (s, [])).0
  row_fires s o fire f h = grind arith

  by_table : (a b : Table GroupRecordRow) → a ≡ b → row_at b (star_key i g) ≡ Some r → row_at a (star_key i g) ≡ Some r
  by_table a b e f = ap (λ (rows : Table GroupRecordRow). row_at rows (star_key i g)) e ∙ f

  pending_groups : (s : State) (k : Key) (d : DownstreamRow) → (prune_pending_due s k d).0.group_records ≡ s.group_records
  unfolding prune_pending_due
  pending_groups s k d = grind arith

  group_due : (s : State) (j h : ℕ) → here i g j h ≡ false → Row s → Row (group_record_due s j h)
  unfolding group_record_due
  group_due s j h off f = grind (arith, keys_here, members_row, row_change_away)

  -- a source's timer leaves the group timer
  still_timed : (src : ℕ) (x : GroupRecord) → is_none x.timer ≡ false → is_none (source_expired src x).timer ≡ false
  unfolding source_expired
  still_timed src x f = by_cond (λ (y : GroupRecord). is_none y.timer ≡ false) (is_some x.timer) _ _ f f

  running : (end : Option ℕ) → runs_until t end ≡ true → is_none end ≡ false
  running end f = grind arith

  timed_here : (s : State) (j h : ℕ) → Row s → here i g j h ≡ true → is_none (record_of s j h).timer ≡ false
  unfolding record_of
  timed_here s j h f e = grind (arith, eqb-true, running)

  source_due : (s : State) (j h src : ℕ) → Row s → Row (source_record_due s j h src)
  unfolding source_record_due
  source_due s j h src f = grind (arith, members_row, still_timed, timed_here)

  fired_keeps : (s : State) (kind : TimerKind) (k : Key)
      → (kind ≡ TimerKind.GroupRecord → here i g (iface_in k) (group_in k) ≡ false) → Row s → Row (fired s kind k).0
  unfolding fired fire_row downstream_expired neighbour_due keepalive_due override_timer_due join_timer_due
      other_querier_gone querying_on group_repeat_due source_repeat_due sources_sent general_query_due hello_due
  fired_keeps s kind k a f =
      grind (arith, group_due, source_due, row_fires, by_table, pending_groups, assert_due_same, register_due_same)

  module _ (w : ℕ) where
    once_keeps : (s : State) (d : Ending) → Kept s → d.end ≤ m → shows d.timer.kind (Ends d.timer.key d.end) s ≡ true
        → Kept (fire_once w s d).0
    unfolding fire_once
    once_keeps s d f low shown =
        let k : Key = d.timer.key in
        let opened : State = record s { present = d.end } in
        let fires : Row (fired opened d.timer.kind k).0 =
        fired_keeps opened d.timer.kind k
        (λ is. group_elsewhere s k d.end low f (subst (λ (kind : TimerKind). shows kind (Ends k d.end) s ≡ true) is shown))
        f.there in
        record {
          there = by_table _ _ (ap (λ (x : Rows). x.groups) (settled_same s (fired opened d.timer.kind k) w)) fires;
          lawful = one_firing_is_lawful w s d f.lawful;
        }

    instant_keeps : (s : State) (e : Ending) → Kept s → e.end ≤ m → Kept (fire_instant w s e).0
    unfolding fire_instant
    instant_keeps s e f low =
        kept_to_the_end (next_due e.end) (fire_once w) Kept
        (λ u d h there.
        let next : IsNext e.end u d = is_next e.end u d there in
        let due : d.end ≤ e.end = next.due in once_keeps u d h (omega (arith, due, low)) next.shown)
        (length (timers s) + 1) s f

    pub time_keeps : (s : State) → Kept s → row i g (advanced s w m).state ≡ Some r
    unfolding advanced fire_all
    time_keeps s f =
        (kept_to_the_end (next_due m) (fire_instant w) Kept
        (λ u d h there. instant_keeps u d h (is_next m u d there).due) (m + 2 - s.present) s f).there
