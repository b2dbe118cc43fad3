-- A report touches the groups of its records; the ends of its timers touch theirs.
use Rattle.std.{proofs.{Common.{◌≡◌, eq-eqb, ◌==◌, ◌&&◌, ℕ, Bool, true, false, not, cond, List, [], ◌∷◌, map, fold, Option, Some, None, ◌+◌, refl, sym, ap, ◌∙◌, subst, arith}, lemmas.Bool.{or_left, or_right}}, specs.{Cmp.{first_so, second_so, Derive.both_true}, List.{filter, list_all, list_any}}}
use Rattle.pim_types.{specs.{declared.fact.{GroupRecordRow.GroupRecordRow, Key.Key, SendingRow.SendingRow, SourceRecordRow.SourceRecordRow}, Keys.{group_in, is_of_group, is_on, same_key, source_in, source_key, star_key}}, proofs.Keys.same_key_same}
use Rattle.igmp_wire.{specs.Values.Record}
use Rattle.pim_model.{specs.{Messages.Message, Querier.{each_in_turn, exceeds, group_membership_interval, robustness, group_record_due, is_skipped, is_querier, lower_group, lower_sources, lowered, query_asked, query_end, query_group, query_sources, record_seen, report_seen, send_sources, source_end, source_record_due, sources_sent}, Records.{Asked, GroupRecord, Member, apply_record, group_expired, source_expired, is_at_group, put_member, record_of, with_members, with_record, with_repeats_of_rows}, State.State, Tables.{Table, change_row, drop_at, drop_where, is_among, is_empty_list, put, rows_where}, Full.reported_groups, Downstream.is_named}}
use Rattle.law_settled.{proofs.{TurnLaws.kept_in_turn, RowChanges.{changed_elsewhere, dropped_elsewhere, filtered_elsewhere, put_elsewhere}}}
use Rattle.law_events.{specs.{Locality.{AgreesBut, touching}, Scopes.{modes_read, only_mode, only_running, only_side, reads, scope}}, proofs.{Asserts.stars_read, Events.agrees_if, SourceMacros.cut_source, StarMacros.cut_group, Touches.{agrees_same, agrees_then, named_touches, touched_with_group, touching_is_closed, unread_of, widened, group_records_agree, source_records_agree}}}

-- ---- rows that are changed in their places

module _ {R : Type 0} (sees : Key → Bool) (test : Key → Bool) (change : Key × R → R)
    (away : (k : Key) → test k ≡ true → sees k ≡ false) where
  abbrev in_place : Key × R → Key × R
  in_place e = cond (test e.0) (e.0, change e) e

  place_step : (x : Key × R) (xs ys : Table R) (b c : Bool) → test x.0 ≡ b → sees x.0 ≡ c
      → rows_where sees ys ≡ rows_where sees xs
      → rows_where sees (cond b (x.0, change x) x ∷ ys) ≡ cond c (x ∷ rows_where sees xs) (rows_where sees xs)
  unfolding rows_where
  place_step x xs ys b c e f ih = grind arith

  pub placed_elsewhere : (t : Table R) → rows_where sees (map in_place t) ≡ rows_where sees t
  unfolding rows_where
  placed_elsewhere [] = refl
  placed_elsewhere (x ∷ xs) = grind (arith, placed_elsewhere xs, place_step)

-- ---- ends that move

module _ {R : Type 0} (cut : R → R) (sees : Key → Bool) (test : Key → Bool) (change : Key × R → R)
    (alike : (e : Key × R) → cut (change e) ≡ cut e.1) where
  abbrev cut_down : Key × R → Key × R
  cut_down e = (e.0, cut e.1)

  alike_step : (x : Key × R) (xs ys : Table R) (b c : Bool) → sees x.0 ≡ c
      → map cut_down (rows_where sees ys) ≡ map cut_down (rows_where sees xs)
      → map cut_down (rows_where sees (cond b (x.0, change x) x ∷ ys))
      ≡ map cut_down (cond c (x ∷ rows_where sees xs) (rows_where sees xs))
  unfolding rows_where
  alike_step x xs ys b c f ih = grind arith

  -- rows that are cut down alike, changed in their places
  placed_alike : (t : Table R) → map cut_down (rows_where sees (map (λ (e : Key × R). cond (test e.0) (e.0, change e) e) t))
      ≡ map cut_down (rows_where sees t)
  unfolding rows_where
  placed_alike [] = refl
  placed_alike (x ∷ xs) = grind (arith, placed_alike xs, alike_step)

lowered_runs : (end : ℕ) (o : Option ℕ) → only_running (lowered end o) ≡ only_running o
lowered_runs end o = grind arith

-- a timer that is lowered runs on: no machine sees it
pub lower_group_alike : (touches : Key → Bool) (s : State) (i g end : ℕ) → AgreesBut touches s (lower_group s i g end)
unfolding lower_group scope
lower_group_alike touches s i g end h e =
    sym (λ j. record (scope (reads h) s) {
      group_records = modes_read (placed_alike cut_group (reads h) (same_key (star_key i g))
          (λ x. record { end = lowered end (x.1).end })
          (λ x. ap (λ (o : Option ℕ). let r : GroupRecordRow = record { end = o } in r) (lowered_runs end (x.1).end))
          s.group_records j) (map only_side (rows_where (reads h) s.source_records));
    })

pub lower_sources_alike : (touches : Key → Bool) (s : State) (i g : ℕ) (sources : List ℕ) (end : ℕ)
    → AgreesBut touches s (lower_sources s i g sources end)
unfolding lower_sources scope
lower_sources_alike touches s i g sources end h e =
    let alike : map only_side (rows_where (reads h) (lower_sources s i g sources end).source_records)
    ≡ map only_side (rows_where (reads h) s.source_records) =
    placed_alike cut_source (reads h) (λ k. is_at_group i g k && is_among (source_in k) sources)
    (λ x. record { end = lowered end (x.1).end })
    (λ x. ap (λ (o : Option ℕ). let r : SourceRecordRow = record { end = o } in r) (lowered_runs end (x.1).end))
    s.source_records in
    sym (λ j. record (scope (reads h) s) {
      group_records = modes_read (map only_mode (rows_where (reads h) s.group_records)) (alike j);
      source_records = alike j;
    })

-- ---- one group on one interface

module _ (i g : ℕ) where
  abbrev Here : State → State → Type 0
  Here s t = AgreesBut (touching (star_key 0 g ∷ [])) s t

  unread_here : (q : Key) → touching (star_key 0 g ∷ []) q ≡ false → (k : Key) → (group_in k == g) ≡ true
      → reads q k ≡ false
  unread_here q e k same = unread_of (star_key 0 g ∷ []) k q (touched_with_group g k same) e

  star_unread : (q : Key) → touching (star_key 0 g ∷ []) q ≡ false → reads q (star_key i g) ≡ false
  star_unread q e = unread_here q e (star_key i g) (eq-eqb g g refl)

  at_group_away : (q : Key) → touching (star_key 0 g ∷ []) q ≡ false → (k : Key) → is_at_group i g k ≡ true
      → reads q k ≡ false
  at_group_away q e k same = unread_here q e k (second_so (is_on i k) (is_of_group g k) same)

  members_put : (h : Key) → touching (star_key 0 g ∷ []) h ≡ false → (ms : List Member) (t : Table SourceRecordRow)
      → rows_where (reads h) (fold (put_member i g) t ms) ≡ rows_where (reads h) t
  members_put h e [] t = refl
  members_put h e (m ∷ ms) t =
      members_put h e ms (put_member i g t m) ∙ put_elsewhere (reads h) (source_key i g m.0)
      (unread_here h e (source_key i g m.0) (eq-eqb g g refl)) t
      (record { end = m.1 })

  not_at_group : (h : Key) → touching (star_key 0 g ∷ []) h ≡ false → (e : Key × SourceRecordRow) → reads h e.0 ≡ true
      → not (is_at_group i g e.0) ≡ true
  not_at_group h e x here = grind (arith, at_group_away)

  record_dropped : (h : Key) → touching (star_key 0 g ∷ []) h ≡ false → (b : Bool) (t : Table GroupRecordRow)
      → rows_where (reads h) (cond b (drop_at t (star_key i g)) t) ≡ rows_where (reads h) t
  record_dropped h e b t = grind (arith, dropped_elsewhere, star_unread)

  members_here : (s : State) (r : GroupRecord) → Here s (with_members s i g r)
  unfolding with_members with_repeats_of_rows scope drop_where
  members_here s r =
      grind (arith, agrees_then, group_records_agree, record_dropped, source_records_agree, members_put, filtered_elsewhere, not_at_group)

  record_here : (s : State) (r : GroupRecord) → Here s (with_record s i g r)
  unfolding with_record
  record_here s r =
      let timed : State = record s { group_records = put s.group_records (star_key i g) (record { end = r.timer }) } in
      agrees_then (touching (star_key 0 g ∷ [])) s timed (with_record s i g r)
      (group_records_agree (touching (star_key 0 g ∷ [])) s timed.group_records
      (λ h e. put_elsewhere (reads h) (star_key i g) (star_unread h e) s.group_records (record { end = r.timer })))
      (members_here timed r)

  pub group_end_here : (s : State) → Here s (group_record_due s i g)
  unfolding group_record_due
  group_end_here s =
      let change : GroupRecordRow → Option GroupRecordRow = λ old. Some (record { end = None }) in
      let timed : State = record s { group_records = change_row change (star_key i g) s.group_records } in
      agrees_then (touching (star_key 0 g ∷ [])) s timed (group_record_due s i g)
      (group_records_agree (touching (star_key 0 g ∷ [])) s timed.group_records
      (λ h e. changed_elsewhere (reads h) change (star_key i g) (star_unread h e) s.group_records))
      (members_here timed (group_expired s.present (record_of s i g)))

  pub source_end_here : (s : State) (src : ℕ) → Here s (source_record_due s i g src)
  unfolding source_record_due
  source_end_here s src = members_here s (source_expired src (record_of s i g))

  -- ---- what is asked

  query_group_here : (s : State) → Here s (query_group s i g).0
  unfolding query_group scope
  query_group_here s = lower_group_alike (touching (star_key 0 g ∷ [])) s i g _

  query_sources_here : (s : State) (asked : List ℕ) → Here s (query_sources s i g asked).0
  unfolding query_sources send_sources sources_sent scope
  query_sources_here s asked = go (is_empty_list (filter (λ src. exceeds (query_end s i) (source_end s i g src)) asked))
    where
      go : (b : Bool) → (let sources : List ℕ = filter (λ src. exceeds (query_end s i) (source_end s i g src)) asked in
          let counted : Table SendingRow =
          fold (λ t src. put t (source_key i g src) (record { left = robustness s i })) s.sendings sources in
          let lower : State = record (lower_sources s i g sources (query_end s i)) { sendings = counted } in
          let after : State × List Message =
          elim b [ true ↦ (s, []) | false ↦ send_sources lower i g ] in Here s after.0)
      go true = agrees_same (touching (star_key 0 g ∷ [])) s
      go false =
          lower_sources_alike (touching (star_key 0 g ∷ [])) s i g
          (filter (λ src. exceeds (query_end s i) (source_end s i g src)) asked) (query_end s i)

  asked_here : (s : State) (a : Asked) → Here s (query_asked i g s a).0
  unfolding query_asked
  asked_here s a = grind (arith, query_group_here, query_sources_here)

  record_seen_here : (s : State) (r : Record) → r.group ≡ g → Here s (record_seen i s r).0
  unfolding record_seen
  record_seen_here s r of_group =
      let full : ℕ = s.present + group_membership_interval s i in
      let applied : GroupRecord × List Asked = apply_record full (record_of s i r.group) r.type r.sources in
      subst (λ (n : ℕ). (let written : State = with_record s i n applied.0 in
      let after : State × List Message =
      cond (is_querier s i) (each_in_turn (query_asked i n) written applied.1) (written, []) in Here s after.0))
      (sym of_group)
      (let written : State = with_record s i g applied.0 in
      agrees_if (touching (star_key 0 g ∷ [])) s (is_querier s i) (each_in_turn (query_asked i g) written applied.1)
      (written, [])
      (kept_in_turn (query_asked i g) (λ t. Here s t)
      (λ t a f. agrees_then (touching (star_key 0 g ∷ [])) s t (query_asked i g t a).0 f (asked_here t a))
      applied.1 written (record_here s applied.0)) (record_here s applied.0))

-- ---- a report

module _ {S A M : Type 0} (change : S → A → S × List M) (Kept : S → Type 0) (p : A → Bool)
    (keeps : (s : S) (a : A) → p a ≡ true → Kept s → Kept (change s a).0) where
  kept_where : (xs : List A) (s : S) → list_all p xs ≡ true → Kept s → Kept (each_in_turn change s xs).0
  unfolding each_in_turn
  kept_where [] s e k = k
  kept_where (x ∷ xs) s e k =
      grind (arith, kept_where xs (change s x).0 (second_so (p x) (list_all p xs) e) (keeps s x (first_so (p x) (list_all p xs) e) k))

abbrev reported_group : ℕ → Record → Key
reported_group i r = star_key i r.group

is_of_record : (i : ℕ) (r : Record) (keys : List Key) → touching keys (reported_group i r) ≡ true
    → list_all (touching keys) (star_key 0 r.group ∷ []) ≡ true
is_of_record i r keys is =
    both_true (touching_is_closed keys (reported_group i r) (star_key 0 r.group) is (stars_read (star_key 0 r.group) i))
    refl

all_reported : (i : ℕ) (rs : List Record) (keys : List Key)
    → ((k : Key) → is_named (map (reported_group i) rs) k ≡ true → touching keys k ≡ true)
    → list_all (λ r. touching keys (reported_group i r)) rs ≡ true
unfolding is_named
all_reported i [] keys f = refl
all_reported i (r ∷ rs) keys f =
    both_true
    (f (reported_group i r) (or_left (same_key (reported_group i r) (reported_group i r))
    (list_any (same_key (reported_group i r)) (map (reported_group i) rs)) (same_key_same (reported_group i r))))
    (all_reported i rs keys
    (λ k e. f k (or_right (same_key k (reported_group i r)) (list_any (same_key k) (map (reported_group i) rs)) e)))

pub report_touches : (s : State) (i : ℕ) (records : List Record)
    → AgreesBut (touching (reported_groups i records)) s (report_seen s i records).0
unfolding report_seen reported_groups
report_touches s i records =
    let used : List Record = filter (λ r. not (is_skipped r)) records in
    let keys : List Key = map (reported_group i) used in
    kept_where (record_seen i) (AgreesBut (touching keys) s) (λ (r : Record). touching keys (reported_group i r))
    (λ t r is f. agrees_then (touching keys) s t (record_seen i t r).0 f
    (widened (star_key 0 r.group ∷ []) keys t (record_seen i t r).0 (is_of_record i r keys is)
    (record_seen_here i r.group t r refl)))
    used s (all_reported i used keys (named_touches keys)) (agrees_same (touching keys) s)
