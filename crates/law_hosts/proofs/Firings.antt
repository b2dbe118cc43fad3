-- Time that passes leaves a group open until its end.
use Rattle.std.{proofs.{Common.{◌≡◌, ◌∙◌, ℕ, ◌+◌, ◌-◌, ◌≤◌, ◌&&◌, ◌==◌, nat_le, true, false, List, [], length, Option, Some, None, refl, sym, ap, subst, arith, eqb-true, eq-eqb}, lemmas.{Bool.{Decides.nat_tests, false_from_ne_true}, Grind.common_steps}}, specs.{Cmp.{first_so, second_so, Derive.both_true}, Option.option_map_or}}
use Rattle.pim_types.{specs.{Keys.{group_in, iface_in, same_key, source_in, star_key}, declared.{fact.{DownstreamRow.DownstreamRow, GroupRecordRow.GroupRecordRow, Key.Key, SourceRecordRow.SourceRecordRow}, timer.TimerKind.TimerKind}}, proofs.Keys.equal_keys}
use Rattle.pim_model.{specs.{Downstream.{downstream_expired, prune_pending_due}, Firing.{fire_all, fire_instant, fire_once, fire_row, fired, keepalive_due}, Hellos.{hello_due, neighbour_due}, Messages.Message, Querier.{general_query_due, group_end, group_record_due, group_repeat_due, other_querier_gone, querying_on, source_record_due, source_repeat_due, sources_sent}, Records.{group_expired, is_at_group, record_of, source_expired}, State.State, Step.advanced, Tables.{Table, change_row, row_at, same_option}, Timers.{Ending, next_due, timers}, Upstream.{join_timer_due, override_timer_due}}}
use Rattle.law_settled.{specs.{Laws.is_under_star, Ready.IsLawful}, proofs.{Ends.{Ends, shows}, ListLaws.{any_among_all, each_of_list}, RowLaws.row_change_away, TimerLaws.{IsNext, is_next}, TurnLaws.kept_to_the_end, LawfulFiring.one_firing_is_lawful}}
use Rattle.law_streams.{proofs.{Same.{Rows, assert_due_same, register_due_same, settled_same}, Lasts.only_row}}
use Rattle.igmp_older.{specs.Open.{IsOpen, runs_until}, proofs.OpenLaws.{Tables, is_here, members_other, same_open, tables}}

-- an end before t is none that runs until t
pub not_yet : (t m : ℕ) → nat_le t m ≡ false → (end : Option ℕ) (n : ℕ) → n ≤ m → runs_until t end ≡ true → same_option end (Some n) ≡ true → ⊥
not_yet t m before None n low runs same = cc
not_yet t m before (Some e) n low runs same = let is : e ≡ n = grind (arith, common_steps, same) in absurd (grind (arith, nat_tests, runs, before))

pub key_here : (i g : ℕ) (k : Key) → ((iface_in k == i) && (group_in k == g)) ≡ true → star_key (iface_in k) (group_in k) ≡ star_key i g
key_here i g k e =
    let iface : iface_in k ≡ i = eqb-true (iface_in k) i (first_so (iface_in k == i) (group_in k == g) e) in
    let group : group_in k ≡ g = eqb-true (group_in k) g (second_so (iface_in k == i) (group_in k == g) e) in
    ap (λ (n : ℕ). star_key n (group_in k)) iface ∙ ap (λ (n : ℕ). star_key i n) group

-- a group's record is under the group's key
pub star_there : (s : State) (k : Key) (n : ℕ) → IsLawful s → shows TimerKind.GroupRecord (Ends k n) s ≡ true → star_key (iface_in k) (group_in k) ≡ k
star_there s k n f shown =
    any_among_all (λ (e : Key × GroupRecordRow). is_under_star e ≡ true) (λ e. same_key k e.0 && same_option (e.1).end (Some n))
    (λ e under passes.
    let same : k ≡ e.0 = equal_keys k e.0 (first_so (same_key k e.0) (same_option (e.1).end (Some n)) passes) in
    let star : star_key (iface_in e.0) (group_in e.0) ≡ e.0 = equal_keys (star_key (iface_in e.0) (group_in e.0)) e.0 under in
    subst (λ (x : Key). star_key (iface_in x) (group_in x) ≡ x) (sym same) star) s.group_records
    (each_of_list is_under_star s.group_records (f.firable).group_records) shown

module _ (t i g m : ℕ) (before : nat_le t m ≡ false) where
  abbrev Open : State → Type 0
  Open s = IsOpen t i g s

  pub record Kept (s : State) : Type 0 where
    pub open_there : Open s
    pub lawful : IsLawful s

  same_group_end : (s : State) (k : Key) → k ≡ star_key i g → (n : ℕ) → n ≤ m → Kept s → shows TimerKind.GroupRecord (Ends k n) s ≡ true → ⊥
  same_group_end s k e n low f shown =
      let here : shows TimerKind.GroupRecord (Ends (star_key i g) n) s ≡ true =
      subst (λ (x : Key). shows TimerKind.GroupRecord (Ends x n) s ≡ true) e shown in
      go (row_at s.group_records (star_key i g)) refl (f.open_there).group here
    where
      go : (o : Option GroupRecordRow) → row_at s.group_records (star_key i g) ≡ o → runs_until t (group_end s i g) ≡ true
          → shows TimerKind.GroupRecord (Ends (star_key i g) n) s ≡ true → ⊥
      go None is runs here = let no : runs_until t (group_end s i g) ≡ false = rw is refl in cc
      go (Some r) is runs here =
          let last : runs_until t r.end ≡ true = rw is at runs in
          not_yet t m before r.end n low last
          (only_row (star_key i g) (λ e. same_option (e.1).end (Some n)) r s.group_records ((f.lawful).ordered).group_records is here
          (λ x row at passes. subst (λ (y : GroupRecordRow). same_option y.end (Some n) ≡ true) row passes))

  group_elsewhere : (s : State) (k : Key) (n : ℕ) → n ≤ m → Kept s → shows TimerKind.GroupRecord (Ends k n) s ≡ true
      → is_here t i g (iface_in k) (group_in k) ≡ false
  group_elsewhere s k n low f shown =
      false_from_ne_true (is_here t i g (iface_in k) (group_in k))
      (λ e. same_group_end s k (sym (star_there s k n f.lawful shown) ∙ key_here i g k e) n low f shown)

  source_elsewhere : (s : State) (k : Key) (n : ℕ) → n ≤ m → Kept s → shows TimerKind.SourceRecord (Ends k n) s ≡ true
      → is_here t i g (iface_in k) (group_in k) ≡ false
  source_elsewhere s k n low f shown =
      false_from_ne_true (is_here t i g (iface_in k) (group_in k))
      (λ e. any_among_all (λ (x : Key × SourceRecordRow). is_at_group i g x.0 ≡ true → runs_until t (x.1).end ≡ true)
      (λ x. same_key k x.0 && same_option (x.1).end (Some n))
      (λ x runs passes.
      let same : k ≡ x.0 = equal_keys k x.0 (first_so (same_key k x.0) (same_option (x.1).end (Some n)) passes) in
      let at : is_at_group i g x.0 ≡ true = subst (λ (y : Key). is_at_group i g y ≡ true) same e in
      not_yet t m before (x.1).end n low (runs at) (second_so (same_key k x.0) (same_option (x.1).end (Some n)) passes))
      s.source_records (f.open_there).sources shown)

  -- ---- what the expiry of a timer changes

  row_fires : {R : Type 0} (s : State) (o : Option R) (fire : R → State × List Message) → Open s
      → ((r : R) → Open (fire r).0) → Open (option_map_or fire o (s, [])).0
  row_fires s o fire f h = grind arith

  pending_tables : (s : State) (k : Key) (r : DownstreamRow) → tables t i g (prune_pending_due s k r).0 ≡ tables t i g s
  unfolding prune_pending_due
  pending_tables s k r = grind arith

  group_due : (s : State) (j h : ℕ) → is_here t i g j h ≡ false → Open s → Open (group_record_due s j h)
  unfolding group_record_due
  group_due s j h off f =
      let apart : star_key j h ≡ star_key i g → ⊥ = λ e.
      let here : is_here t i g j h ≡ true = both_true (eq-eqb j i (ap (λ (k : Key). iface_in k) e)) (eq-eqb h g (ap (λ (k : Key). group_in k) e)) in cc in
      let ended : Table GroupRecordRow = change_row (λ (old : GroupRecordRow). Some (record { end = None })) (star_key j h) s.group_records in
      let away : row_at ended (star_key i g) ≡ row_at s.group_records (star_key i g) =
      row_change_away (star_key j h) (star_key i g) apart (λ (old : GroupRecordRow). Some (record { end = None })) s.group_records in
      members_other t i g j h off (record s { group_records = ended }) (group_expired s.present (record_of s j h))
      (record { group = rw away f.group; sources = f.sources })

  source_due : (s : State) (j h src : ℕ) → is_here t i g j h ≡ false → Open s → Open (source_record_due s j h src)
  unfolding source_record_due
  source_due s j h src off f = members_other t i g j h off s (source_expired src (record_of s j h)) f

  by_rows : (s u : State) → (let x : Rows = record { downstream = u.downstream; groups = u.group_records; sources = u.source_records } in x)
      ≡ (let x : Rows = record { downstream = s.downstream; groups = s.group_records; sources = s.source_records } in x) → Open s → Open u
  by_rows s u e f = same_open t i g s u (ap (λ (x : Rows). let y : Tables t i g = record { groups = x.groups; sources = x.sources } in y) e) f

  fired_keeps : (s : State) (kind : TimerKind) (k : Key)
      → (kind ≡ TimerKind.GroupRecord → is_here t i g (iface_in k) (group_in k) ≡ false)
      → (kind ≡ TimerKind.SourceRecord → is_here t i g (iface_in k) (group_in k) ≡ false) → Open s → Open (fired s kind k).0
  unfolding fired fire_row downstream_expired neighbour_due keepalive_due override_timer_due join_timer_due
      other_querier_gone querying_on group_repeat_due source_repeat_due sources_sent general_query_due hello_due
  fired_keeps s TimerKind.GroupRecord k a b f = group_due s (iface_in k) (group_in k) (a refl) f
  fired_keeps s TimerKind.SourceRecord k a b f = source_due s (iface_in k) (group_in k) (source_in k) (b refl) f
  fired_keeps s TimerKind.PrunePending k a b f = grind (arith, row_fires, same_open, pending_tables)
  fired_keeps s TimerKind.DownstreamExpiry k a b f = same_open t i g s _ refl f
  fired_keeps s TimerKind.Assert k a b f = row_fires s (row_at s.asserts k) _ f (λ r. by_rows s _ (assert_due_same s k r) f)
  fired_keeps s TimerKind.Register k a b f = row_fires s (row_at s.registers k) _ f (λ r. by_rows s _ (register_due_same s k r.state) f)
  fired_keeps s TimerKind.Keepalive k a b f = row_fires s (row_at s.sources k) _ f (λ r. same_open t i g s _ refl f)
  fired_keeps s TimerKind.GroupRepeat k a b f = row_fires s (row_at s.group_repeats k) _ f (λ r. same_open t i g s _ refl f)
  fired_keeps s TimerKind.GeneralQuery k a b f = row_fires s (row_at s.queriers k) _ f (λ r. same_open t i g s _ refl f)
  fired_keeps s TimerKind.Hello k a b f = row_fires s (row_at s.interfaces k) _ f (λ r. same_open t i g s _ refl f)
  fired_keeps s TimerKind.Neighbour k a b f = same_open t i g s _ refl f
  fired_keeps s TimerKind.Override k a b f = same_open t i g s _ refl f
  fired_keeps s TimerKind.Join k a b f = same_open t i g s _ refl f
  fired_keeps s TimerKind.OtherQuerier k a b f = same_open t i g s _ refl f
  fired_keeps s TimerKind.SourceRepeat k a b f = same_open t i g s _ refl f

  module _ (w : ℕ) where
    once_keeps : (s : State) (d : Ending) → Kept s → d.end ≤ m → shows d.timer.kind (Ends d.timer.key d.end) s ≡ true
        → Kept (fire_once w s d).0
    unfolding fire_once
    once_keeps s d f low shown =
        let k : Key = d.timer.key in
        let opened : State = record s { present = d.end } in
        let fires : Open (fired opened d.timer.kind k).0 =
        fired_keeps opened d.timer.kind k
        (λ is. group_elsewhere s k d.end low f (subst (λ (kind : TimerKind). shows kind (Ends k d.end) s ≡ true) is shown))
        (λ is. source_elsewhere s k d.end low f (subst (λ (kind : TimerKind). shows kind (Ends k d.end) s ≡ true) is shown))
        (same_open t i g s opened refl f.open_there) in
        record {
          open_there = by_rows (fired opened d.timer.kind k).0 _ (settled_same s (fired opened d.timer.kind k) w) fires;
          lawful = one_firing_is_lawful w s d f.lawful;
        }

    instant_keeps : (s : State) (e : Ending) → Kept s → e.end ≤ m → Kept (fire_instant w s e).0
    unfolding fire_instant
    instant_keeps s e f low =
        kept_to_the_end (next_due e.end) (fire_once w) Kept
        (λ u d h there.
        let next : IsNext e.end u d = is_next e.end u d there in
        let due : d.end ≤ e.end = next.due in once_keeps u d h (omega (arith, due, low)) next.shown)
        (length (timers s) + 1) s f

    pub time_keeps : (s : State) → Kept s → Open (advanced s w m).state
    unfolding advanced fire_all
    time_keeps s f =
        same_open t i g (fire_all w m s).0 (record ((fire_all w m s).0) { present = m }) refl
        ((kept_to_the_end (next_due m) (fire_instant w) Kept
        (λ u d h there. instant_keeps u d h (is_next m u d there).due) (m + 2 - s.present) s f).open_there)
