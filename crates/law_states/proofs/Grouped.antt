-- Each source record lies beside the record of its group.
use Rattle.std.{proofs.{Common.{◌≡◌, ◌∙◌, ◌&&◌, ◌||◌, ℕ, ◌≤◌, not, Bool, true, false, cond, List, [], ◌∷◌, filter, fold, is_none, map, Option, refl, sym, ap, subst, arith, eq-eqb, eqb-true, ◌==◌, Some, None}, lemmas.Bool.{or_left, or_right}}, specs.{Cmp.Derive.both_true, List.{list_any}}}
use Rattle.pim_types.{specs.{Keys.{group_in, iface_in, is_on, same_key, source_key, star_key}, declared.{config.Config.Config, fact.{AssertRow.AssertRow, DownstreamRow.DownstreamRow, GroupRecordRow.GroupRecordRow, Key.Key, SourceRecordRow.SourceRecordRow}, timer.TimerKind.TimerKind}}, proofs.Keys.{equal_keys, same_key_same}}
use Rattle.pim_wire.{specs.Values.{Encapsulated, Null}}
use Rattle.igmp_wire.{specs.Values.{Query as QueryValue, Record}}
use Rattle.pim_model.{specs.{declared.accepted.Accepted.Accepted, Asserts.{assert_due, assert_forgotten, wins_again}, Downstream.{downstream_expired, prune_pending_due}, Firing.{fire_row, fired, keepalive_due, settled}, Forwarding.source_here, Hellos.{hello_due, neighbour_due}, Messages.Message, Querier.{general_query_due, group_record_due, group_repeat_due, is_querier, is_skipped, lower_group, lower_queried, lower_sources, other_querier_gone, querier_elected, querier_up, query_asked, query_group, query_seen, query_sources, querying, querying_on, record_seen, report_seen, send_sources, source_record_due, source_repeat_due, sources_sent}, Records.{Asked, GroupRecord, Member, group_expired, is_at_group, members_of, put_member, record_of, source_expired, with_members, with_record, with_repeats_of_rows}, Registers.{register_due, register_stop_seen, settle_register, with_keepalive}, State.{State, opening}, Step.{change, iface_down, iface_up, rps_replaced}, Tables.{Table, change_row, drop_at, drop_where, has_row, is_empty_list, put}, Upstream.{join_timer_due, override_timer_due}}}
use Rattle.law_settled.{proofs.{ListLaws.{any_among_all, by_cond, each_map, each_of_list, list_of_each}, RowLaws.{has_row_dropped, has_row_put, has_row_replaced, has_row_without}, TurnLaws.kept_in_turn}}
use Rattle.law_streams.{proofs.{Keyed.{Under, under_put}, Lasting.{Beside, Unhailed, Whole, assert_whole, data_whole, hello_unhailed, register_whole, seen_beside, settled_asking, to_me_whole}, LiesUnder.row_fires, Repeats.{Asking, asking, lowered_there, under_more, under_rest}}}
use Rattle.law_states.{specs.{Placing.{placed, placed_under, without_neighbours}, Reloading.under, Kinds.{SourcesStayGrouped, sources_are_grouped}}, proofs.{Addresses.KeepsAddresses, Rows.{each_placed, has_placed}, Bounds.never, Steps.kept_test}}
use Rattle.law_plane.{specs.Keeping.kept_until}

-- the key of the record of a key's group
abbrev of_group : Key → Key
of_group k = star_key (iface_in k) (group_in k)

abbrev IsIn : Table GroupRecordRow → Key → Type 0
IsIn groups k = has_row groups (of_group k) ≡ true

abbrev GroupedIn : Asking → Type 0
GroupedIn a = Under (IsIn a.groups) a.members

abbrev pub IsGrouped : State → Type 0
IsGrouped s = GroupedIn (asking s)

-- ---- records

some_there : (s : State) (i g : ℕ) → IsGrouped s → list_any (λ (e : Key × SourceRecordRow). is_at_group i g e.0) s.source_records ≡ true
    → has_row s.group_records (star_key i g) ≡ true
some_there s i g f e =
    any_among_all (λ (x : Key × SourceRecordRow). IsIn s.group_records x.0) (λ x. is_at_group i g x.0) (λ x h at. its x.0 h at) s.source_records f e
  where
    its : (k : Key) → IsIn s.group_records k → is_at_group i g k ≡ true → has_row s.group_records (star_key i g) ≡ true
    its k h at = grind (arith, eqb-true)

apart : (i g : ℕ) (k : Key) → is_at_group i g k ≡ false → same_key (of_group k) (star_key i g) ≡ false
apart i g k out = go (same_key (of_group k) (star_key i g)) refl where
  go : (b : Bool) → same_key (of_group k) (star_key i g) ≡ b → b ≡ false
  go false e = refl
  go true e =
      let same : of_group k ≡ star_key i g = equal_keys (of_group k) (star_key i g) e in
      never (sym out ∙ both_true (eq-eqb _ _ (ap (λ (q : Key). iface_in q) same)) (eq-eqb _ _ (ap (λ (q : Key). group_in q) same)))

module _ (i g : ℕ) where
  others_grouped : (s : State) → IsGrouped s → (b : Bool)
      → Under (IsIn (cond b (drop_at s.group_records (star_key i g)) s.group_records)) (drop_where (is_at_group i g) s.source_records)
  others_grouped s f b =
      under_rest (IsIn s.group_records) _ (is_at_group i g) (λ k h out. left k h out b) s.source_records f
    where
      left : (k : Key) → IsIn s.group_records k → is_at_group i g k ≡ false → (b : Bool)
          → IsIn (cond b (drop_at s.group_records (star_key i g)) s.group_records) k
      left k h out true =
          has_row_without (of_group k) (star_key i g) s.group_records ∙ both_true (ap not (apart i g k out)) h
      left k h out false = h

  put_grouped : (groups : Table GroupRecordRow) → has_row groups (star_key i g) ≡ true → (ms : List Member) (t : Table SourceRecordRow)
      → Under (IsIn groups) t → Under (IsIn groups) (fold (put_member i g) t ms)
  put_grouped groups there [] t f = f
  put_grouped groups there (m ∷ ms) t f =
      put_grouped groups there ms (put_member i g t m) (under_put (IsIn groups) t (source_key i g m.0) (record { end = m.1 }) there f)

  no_and : (b : Bool) → (b && false) ≡ false
  no_and true = refl
  no_and false = refl

  written : (s : State) → IsGrouped s → (timer : Option ℕ) (ms : List Member)
      → (is_empty_list ms ≡ false → has_row s.group_records (star_key i g) ≡ true)
      → Under (IsIn (cond (is_none timer && is_empty_list ms) (drop_at s.group_records (star_key i g)) s.group_records))
      (fold (put_member i g) (drop_where (is_at_group i g) s.source_records) ms)
  written s f timer [] there = others_grouped s f (is_none timer && true)
  written s f timer (m ∷ ms) there =
      subst
      (λ b. Under (IsIn (cond b (drop_at s.group_records (star_key i g)) s.group_records))
      (fold (put_member i g) (drop_where (is_at_group i g) s.source_records) (m ∷ ms)))
      (sym (no_and (is_none timer)))
      (put_grouped s.group_records (there refl) (m ∷ ms) (drop_where (is_at_group i g) s.source_records) (others_grouped s f false))

  members_grouped : (s : State) (r : GroupRecord) → IsGrouped s
      → (is_empty_list r.members ≡ false → has_row s.group_records (star_key i g) ≡ true) → IsGrouped (with_members s i g r)
  unfolding with_members with_repeats_of_rows
  members_grouped s r f there = written s f r.timer r.members there

  record_grouped : (s : State) (r : GroupRecord) → IsGrouped s → IsGrouped (with_record s i g r)
  unfolding with_record
  record_grouped s r f =
      let groups : Table GroupRecordRow = put s.group_records (star_key i g) (record { end = r.timer }) in
      members_grouped (record s { group_records = groups }) r
      (under_more (IsIn s.group_records) (IsIn groups)
      (λ k h. has_row_put (of_group k) (star_key i g) (record { end = r.timer }) s.group_records ∙ or_right (same_key (of_group k) (star_key i g)) _ h)
      s.source_records f)
      (λ some. has_row_put (star_key i g) (star_key i g) (record { end = r.timer }) s.group_records ∙ or_left _ _ (same_key_same (star_key i g)))

-- ---- records whose timers expire

none_left : {X : Type 0} (p : X → Bool) (xs : List X) → is_empty_list (filter p xs) ≡ false → is_empty_list xs ≡ false
none_left p [] e = e
none_left p (x ∷ xs) e = refl

none_mapped : {X Y : Type 0} (f : X → Y) (xs : List X) → is_empty_list (map f xs) ≡ false → is_empty_list xs ≡ false
none_mapped f [] e = e
none_mapped f (x ∷ xs) e = refl

some_passes : {X : Type 0} (p : X → Bool) (xs : List X) → is_empty_list (filter p xs) ≡ false → list_any p xs ≡ true
some_passes p [] e = absurd cc
some_passes p (x ∷ xs) e = step (some_passes p xs) (p x) e where
  step : (is_empty_list (filter p xs) ≡ false → list_any p xs ≡ true) → (b : Bool)
      → is_empty_list (cond b (x ∷ filter p xs) (filter p xs)) ≡ false → (b || list_any p xs) ≡ true
  step later true h = refl
  step later false h = later h

module _ (s : State) (i g : ℕ) (f : IsGrouped s) where
  recorded : is_empty_list (record_of s i g).members ≡ false → has_row s.group_records (star_key i g) ≡ true
  unfolding record_of members_of
  recorded e = some_there s i g f (some_passes _ s.source_records (none_mapped _ _ e))

  source_due_grouped : (src : ℕ) → IsGrouped (source_record_due s i g src)
  unfolding source_record_due source_expired
  source_due_grouped src = members_grouped i g s _ f (λ e. recorded (before _ e)) where
    before : (b : Bool) → is_empty_list (let r : GroupRecord = cond b (record (record_of s i g) { members = map (λ (m : Member). cond (m.0 == src) (let n : Member = (src, None) in n) m) (record_of s i g).members }) (record (record_of s i g) { members = filter (λ (m : Member). not (m.0 == src)) (record_of s i g).members }) in r.members) ≡ false
        → is_empty_list (record_of s i g).members ≡ false
    before true e = none_mapped _ _ e
    before false e = none_left _ _ e

  group_due_grouped : IsGrouped (group_record_due s i g)
  unfolding group_record_due group_expired
  group_due_grouped =
      let groups : Table GroupRecordRow = change_row (λ (old : GroupRecordRow). Some (record { end = None })) (star_key i g) s.group_records in
      members_grouped i g (record s { group_records = groups }) _
      (under_more (IsIn s.group_records) (IsIn groups)
      (λ k h. has_row_replaced (of_group k) (record { end = None }) (star_key i g) s.group_records ∙ h) s.source_records f)
      (λ e. has_row_replaced (star_key i g) (record { end = None }) (star_key i g) s.group_records ∙ recorded (none_left _ _ e))

-- ---- queries and reports

group_lowered : (s : State) (i g end : ℕ) → IsGrouped s → IsGrouped (lower_group s i g end)
unfolding lower_group
group_lowered s i g end f =
    under_more (IsIn s.group_records) _ (λ k h. lowered_there s i g end (of_group k) ∙ h) s.source_records f

sources_lowered : (s : State) (i g : ℕ) (sources : List ℕ) (end : ℕ) → IsGrouped s → IsGrouped (lower_sources s i g sources end)
unfolding lower_sources
sources_lowered s i g sources end f =
    each_map (λ e. IsIn s.group_records e.0) (λ e. IsIn s.group_records e.0) _
    (λ e h. by_cond (λ (p : Key × SourceRecordRow). IsIn s.group_records p.0) _ _ e h h) s.source_records f

asked_grouped : (i g : ℕ) (s : State) (a : Asked) → IsGrouped s → IsGrouped (query_asked i g s a).0
unfolding query_asked query_group query_sources send_sources sources_sent
asked_grouped i g s a f = grind (arith, group_lowered, sources_lowered)

seen_grouped : (i : ℕ) (s : State) (r : Record) → IsGrouped s → IsGrouped (record_seen i s r).0
unfolding record_seen
seen_grouped i s r f =
    by_cond (λ (p : State × List Message). IsGrouped p.0) (is_querier s i) _ _
    (kept_in_turn (query_asked i r.group) IsGrouped (λ t a g. asked_grouped i r.group t a g) _ _ (record_grouped i r.group s _ f))
    (record_grouped i r.group s _ f)

report_grouped : (s : State) (i : ℕ) (records : List Record) → IsGrouped s → IsGrouped (report_seen s i records).0
unfolding report_seen
report_grouped s i records f = kept_in_turn (record_seen i) IsGrouped (seen_grouped i) (filter (λ r. not (is_skipped r)) records) s f

elected_grouped : (s : State) (i qrv qqi : ℕ) → IsGrouped s → IsGrouped (querier_elected s i qrv qqi)
unfolding querier_elected
elected_grouped s i qrv qqi f = f

queried_grouped : (s : State) (i : ℕ) (q : QueryValue) → IsGrouped s → IsGrouped (lower_queried s i q)
unfolding lower_queried
queried_grouped s i q f = grind (arith, by_cond, group_lowered, sources_lowered)

query_grouped : (s : State) (i from : ℕ) (q : QueryValue) → IsGrouped s → IsGrouped (query_seen s i from q)
unfolding query_seen
query_grouped s i from q f = grind (arith, queried_grouped, by_cond, elected_grouped)

down_grouped : (s : State) (i : ℕ) → IsGrouped s → IsGrouped (iface_down s i)
unfolding iface_down
down_grouped s i f =
    under_rest (IsIn s.group_records) (IsIn (drop_where (is_on i) s.group_records)) (is_on i)
    (λ k h out. has_row_dropped (of_group k) (is_on i) s.group_records ∙ both_true (ap not out) h) s.source_records f

-- ---- a timer that expires, and each event's own change

pending_asking : (s : State) (k : Key) (r : DownstreamRow) → asking (prune_pending_due s k r).0 ≡ asking s
unfolding prune_pending_due
pending_asking s k r = grind arith

assert_asking : (s : State) (k : Key) (r : AssertRow) → asking (assert_due s k r).0 ≡ asking s
unfolding assert_due wins_again assert_forgotten
assert_asking s k r = grind arith

here_asking : (s : State) (g src iif : ℕ) → asking (source_here s g src iif) ≡ asking s
unfolding source_here settle_register with_keepalive
here_asking s g src iif = grind arith

module _ (last : ℕ) where
  fires : (s : State) (kind : TimerKind) (k : Key) → IsGrouped s → IsGrouped (fired s kind k).0
  unfolding fired fire_row downstream_expired neighbour_due keepalive_due override_timer_due join_timer_due
      other_querier_gone querying_on general_query_due hello_due register_due group_repeat_due source_repeat_due sources_sent
  fires s kind k f = grind (arith, row_fires, pending_asking, assert_asking, group_due_grouped, source_due_grouped)

  follows : (o : State) (c : State × List Message) (w : ℕ) → IsGrouped c.0 → IsGrouped (settled o c w).0
  follows o c w f = subst GroupedIn (sym (settled_asking o c w)) f

  abbrev OfWhole : Whole → Type 0
  OfWhole u = GroupedIn u.asking

  changes : (s : State) (w : ℕ) (a : Accepted) → IsGrouped s → IsGrouped (change s w a).state
  unfolding change iface_up querier_up querying rps_replaced register_stop_seen
  changes s w (Accepted.Advance moment) f = f
  changes s w (Accepted.Up i) f = f
  changes s w (Accepted.Down i) f = down_grouped s i.number f
  changes s w (Accepted.Routes routes) f = f
  changes s w (Accepted.Rps ranges) f = f
  changes s w (Accepted.Hello i from h) f = subst (λ (u : Unhailed). GroupedIn u.asking) (sym (hello_unhailed s i.number from.bits h w)) f
  changes s w (Accepted.JoinPruneToMe i m) f = subst OfWhole (sym (to_me_whole s i.number m)) f
  changes s w (Accepted.JoinPruneSeen i m) f = subst (λ (u : Beside). GroupedIn u.asking) (sym (seen_beside s w i.number m)) f
  changes s w (Accepted.Assert i from a) f = subst OfWhole (sym (assert_whole s i.number from.bits a)) f
  changes s w (Accepted.Query i from q) f = query_grouped s i.number from.bits q f
  changes s w (Accepted.Report i records) f = report_grouped s i.number records f
  changes s w (Accepted.Data i p) f =
      subst OfWhole (sym (data_whole s p.destination p.source i.number))
      (subst GroupedIn (sym (here_asking s p.destination p.source i.number)) f)
  changes s w (Accepted.Register p (Encapsulated inner)) f =
      subst OfWhole (sym (register_whole s p inner.destination inner.source false)) f
  changes s w (Accepted.Register p (Null source group)) f = subst OfWhole (sym (register_whole s p group source true)) f
  changes s w (Accepted.RegisterStop from r) f = f

  moves : (m : ℕ) → m ≤ last → (s : State) → IsGrouped s → IsGrouped (record s { present = m })
  moves m le s f = f

  unders : (s : State) (c : Config) → IsGrouped s → IsGrouped (under s c)
  unfolding under rps_replaced
  unders s c f = f

  keeps : (s : State) (g src end : ℕ) → IsGrouped s → IsGrouped (kept_until s g src end)
  unfolding kept_until
  keeps s g src end f = f

  goes : (s : State) (places : List ℕ) (c : Config) → KeepsAddresses s places c → IsGrouped s
      → IsGrouped (placed_under s places c)
  unfolding placed_under
  goes s places c same f =
      each_placed places (λ e. IsIn s.group_records e.0) (λ e. IsIn (placed places s.group_records) e.0)
      (λ e h. has_placed places (of_group e.0) s.group_records h) s.source_records f

  parts : (s : State) (apart : List ℕ) → IsGrouped s → IsGrouped (without_neighbours apart s)
  unfolding without_neighbours
  parts s apart f = f

tested : (s : State) → sources_are_grouped s ≡ true → IsGrouped s
unfolding sources_are_grouped
tested s e = each_of_list (λ (x : Key × SourceRecordRow). has_row s.group_records (of_group x.0)) s.source_records e

passes : (s : State) → IsGrouped s → sources_are_grouped s ≡ true
unfolding sources_are_grouped
passes s f = list_of_each (λ (x : Key × SourceRecordRow). has_row s.group_records (of_group x.0)) s.source_records f

opening_grouped : (c : Config) → sources_are_grouped (opening c) ≡ true
unfolding opening sources_are_grouped
opening_grouped c = refl

pub sources_stay_grouped : SourcesStayGrouped
sources_stay_grouped =
    kept_test (λ last s. IsGrouped s) (λ a b le s f. f) moves fires follows changes unders keeps goes parts sources_are_grouped tested passes
    opening_grouped
