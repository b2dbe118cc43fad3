-- What a report leaves of the group timer: an IS_EX or TO_EX sets it to [Group Membership Interval], and nothing else that
-- isn't a TO_IN moves it.
use Rattle.std.{proofs.{Common.{◌≡◌, ◌∙◌, ℕ, ◌+◌, ◌*◌, ◌&&◌, ◌||◌, ◌==◌, not, Bool, true, false, cond, is_none, is_some, List, [], ◌∷◌, filter, Option, Some, None, option_and_then, refl, sym, ap, subst, arith, eqb-true}}, specs.{Cmp.first_so, List.{AllByRecursion, list_any}, Option.option_map_or}}
use Rattle.pim_types.{specs.{Keys.{iface_key, star_key}, declared.{config.IfaceId.IfaceId, fact.{GroupRecordRow.GroupRecordRow, Key.Key, QuerierRow.QuerierRow}}}, proofs.Keys.same_key_same}
use Rattle.igmp_wire.{specs.{Values.Record, declared.report.RecordType.RecordType}}
use Rattle.pim_model.{specs.{declared.accepted.Accepted.Accepted, Firing.settled, Messages.Message, Querier.{each_in_turn, group_end, group_membership_interval, is_excluding, is_querier, is_skipped, query_asked, query_interval, query_sources, record_seen, report_seen, robustness}, Records.{AskGroup, AskSources, Asked, GroupRecord, Member, apply_record, from_exclude, from_include, is_no_record, record_of, record_with, with_members, with_record, with_repeats_of_rows}, State.State, Step.{change, done}, Tables.{Table, drop_at, has_row, is_empty_list, put, row_at}}}
use Rattle.law_settled.{proofs.{ListLaws.{by_cond, each_filter}, RowLaws.{has_row_without, row_put}, TableLaws.any_in_filter}}
use Rattle.law_streams.{proofs.Same.{Rows, settled_same}}
use Rattle.law_states.{proofs.{Queriers.{Asked as Read, asked}, NextQueries.record_asked}}
use Rattle.law_hosts.{specs.Members.{answers, is_leaving, leaves}, proofs.Timers.{asked_groups, row, seen_row}}

-- ---- one record: the timer that it leaves, and the queries that it requests

timer_by : (full : ℕ) (timer : Option ℕ) (members : List Member) (type : RecordType) (sources : List ℕ)
    → (apply_record full (record { timer = timer; members = members }) type sources).0.timer ≡ cond (is_excluding type) (Some full) timer
unfolding apply_record from_include from_exclude record_with
timer_by full timer members type sources = grind arith

-- no query of the group
abbrev IsOfSources : Asked → Type 0
IsOfSources AskGroup = ⊥
IsOfSources (AskSources sources) = Unit {0}

asks_by : (full : ℕ) (timer : Option ℕ) (members : List Member) (type : RecordType) (sources : List ℕ) → is_leaving type ≡ false
    → AllByRecursion IsOfSources (apply_record full (record { timer = timer; members = members }) type sources).1
unfolding apply_record from_include from_exclude
asks_by full timer members type sources stays = grind arith

none_there : {X : Type 0} (o : Option X) → is_some o ≡ false → o ≡ None
none_there None e = refl
none_there (Some x) e = absurd cc

no_timer : (o : Option ℕ) → is_none o ≡ true → None ≡ o
no_timer None e = refl
no_timer (Some n) e = absurd cc

abbrev end_in : Option GroupRecordRow → Option ℕ
end_in o = option_and_then (λ (r : GroupRecordRow). r.end) o

gone : (k : Key) (rows : Table GroupRecordRow) → row_at (drop_at rows k) k ≡ None
unfolding has_row
gone k rows =
    none_there (row_at (drop_at rows k) k)
    (has_row_without k k rows ∙ ap (λ (b : Bool). not b && has_row rows k) (same_key_same k))

written_end : (k : Key) (r : GroupRecord) (rows : Table GroupRecordRow) (b : Bool) → is_no_record r ≡ b
    → (let t : Table GroupRecordRow = put rows k (record { end = r.timer }) in end_in (row_at (cond b (drop_at t k) t) k)) ≡ r.timer
written_end k r rows true e =
    ap end_in (gone k (put rows k (record { end = r.timer })))
    ∙ no_timer r.timer (first_so (is_none r.timer) (is_empty_list r.members) e)
written_end k r rows false e = ap end_in (row_put k (record { end = r.timer }) rows)

module _ (i g : ℕ) where
  record_end : (s : State) (r : GroupRecord) → group_end (with_record s i g r) i g ≡ r.timer
  unfolding with_record with_members with_repeats_of_rows
  record_end s r = written_end (star_key i g) r s.group_records (is_no_record r) refl

  same_end : (s t : State) → t.group_records ≡ s.group_records → group_end t i g ≡ group_end s i g
  same_end s t e = ap (λ (rows : Table GroupRecordRow). end_in (row_at rows (star_key i g))) e

  each_asked : (as' : List Asked) → AllByRecursion IsOfSources as' → (s : State)
      → (each_in_turn (query_asked i g) s as').0.group_records ≡ s.group_records
  unfolding each_in_turn query_asked
  each_asked [] f s = refl
  each_asked (AskGroup ∷ as') f s = absurd f.0
  each_asked (AskSources sources ∷ as') f s = each_asked as' f.1 (query_sources s i g sources).0 ∙ asked_groups i g i g s sources

  abbrev full : State → ℕ
  full s = s.present + group_membership_interval s i

  its_end : (s : State) (type : RecordType) (sources : List ℕ) → is_leaving type ≡ false
      → (let p : GroupRecord × List Asked = apply_record (full s) (record_of s i g) type sources in
      let w : State = with_record s i g p.0 in
      group_end (cond (is_querier s i) (each_in_turn (query_asked i g) w p.1) (w, [])).0 i g ≡ cond (is_excluding type) (Some (full s)) (group_end s i g))
  unfolding record_of
  its_end s type sources stays =
      let p : GroupRecord × List Asked = apply_record (full s) (record_of s i g) type sources in
      let w : State = with_record s i g p.0 in
      let written : group_end w i g ≡ cond (is_excluding type) (Some (full s)) (group_end s i g) =
      record_end s p.0 ∙ timer_by (full s) (record_of s i g).timer (record_of s i g).members type sources in
      by_cond (λ (x : State × List Message). group_end x.0 i g ≡ cond (is_excluding type) (Some (full s)) (group_end s i g)) (is_querier s i)
      (each_in_turn (query_asked i g) w p.1) (w, [])
      (same_end w (each_in_turn (query_asked i g) w p.1).0
      (each_asked p.1 (asks_by (full s) (record_of s i g).timer (record_of s i g).members type sources stays) w) ∙ written)
      written

  abbrev told : Record → Bool
  told r = (r.group == g) && is_excluding r.type

  other_end : (s t : State) → row i g t ≡ row i g s → group_end t i g ≡ group_end s i g
  other_end s t e = ap end_in e

  seen_end : (s : State) (r : Record) → leaves g r ≡ false
      → group_end (record_seen i s r).0 i g ≡ cond (told r) (Some (full s)) (group_end s i g)
  unfolding record_seen
  seen_end s r stays = go (r.group == g) refl stays where
    here : (a b : Bool) → b ≡ false → (a && b) ≡ false
    here true b e = e
    here false b e = refl

    go : (b : Bool) → (r.group == g) ≡ b → (b && is_leaving r.type) ≡ false
        → group_end (record_seen i s r).0 i g ≡ cond (b && is_excluding r.type) (Some (full s)) (group_end s i g)
    go true e stays =
        subst (λ (h : ℕ). (let p : GroupRecord × List Asked = apply_record (full s) (record_of s i h) r.type r.sources in
        let w : State = with_record s i h p.0 in
        group_end (cond (is_querier s i) (each_in_turn (query_asked i h) w p.1) (w, [])).0 i g ≡ cond (is_excluding r.type) (Some (full s)) (group_end s i g)))
        (sym (eqb-true r.group g e)) (its_end s r.type r.sources stays)
    go false e stays = other_end s (record_seen i s r).0 (seen_row i g i s r (here (i == i) (r.group == g) e))

  -- ---- a report

  same_full : (s t : State) → asked t ≡ asked s → full t ≡ full s
  unfolding group_membership_interval robustness query_interval
  same_full s t e = ap full_of e where
    full_of : Read → ℕ
    full_of a =
        a.present
        + (option_map_or (λ (q : QuerierRow). q.robustness) (row_at a.queriers (iface_key i)) a.settings.robustness
        * (1000 * option_map_or (λ (q : QuerierRow). q.query_interval) (row_at a.queriers (iface_key i)) a.settings.query_interval)
        + 100 * a.settings.query_response_interval)

  either_end : (a b : Bool) (f : ℕ) (end : Option ℕ) → cond b (Some f) (cond a (Some f) end) ≡ cond (a || b) (Some f) end
  either_end a b f end = grind arith

  all_end : (rs : List Record) → AllByRecursion (λ (r : Record). leaves g r ≡ false) rs → (s : State)
      → group_end (each_in_turn (record_seen i) s rs).0 i g ≡ cond (list_any told rs) (Some (full s)) (group_end s i g)
  unfolding each_in_turn
  all_end [] f s = refl
  all_end (r ∷ rs) f s =
      let t : State = (record_seen i s r).0 in
      all_end rs f.1 t
      ∙ ap (λ (n : ℕ). cond (list_any told rs) (Some n) (group_end t i g)) (same_full s t (record_asked i s r))
      ∙ ap (λ (end : Option ℕ). cond (list_any told rs) (Some (full s)) end) (seen_end s r f.0)
      ∙ either_end (told r) (list_any told rs) (full s) (group_end s i g)

  none_of : (rs : List Record) → list_any (leaves g) rs ≡ false → AllByRecursion (λ (r : Record). leaves g r ≡ false) rs
  none_of [] e = tt
  none_of (r ∷ rs) e = (first (leaves g r) (list_any (leaves g) rs) e, none_of rs (second (leaves g r) (list_any (leaves g) rs) e)) where
    first : (a b : Bool) → (a || b) ≡ false → a ≡ false
    first a b e = grind arith

    second : (a b : Bool) → (a || b) ≡ false → b ≡ false
    second a b e = grind arith

  report_end : (s : State) (rs : List Record) → list_any (leaves g) rs ≡ false
      → group_end (report_seen s i rs).0 i g ≡ cond (list_any (answers g) rs) (Some (full s)) (group_end s i g)
  unfolding report_seen
  report_end s rs stays =
      all_end (filter (λ (r : Record). not (is_skipped r)) rs)
      (each_filter (λ (r : Record). leaves g r ≡ false) (λ (r : Record). not (is_skipped r)) rs (none_of rs stays)) s
      ∙ ap (λ (b : Bool). cond b (Some (full s)) (group_end s i g)) (any_in_filter (λ (r : Record). not (is_skipped r)) told rs)

  pub done_end : (s : State) (w : ℕ) (j : IfaceId) (rs : List Record) → (j.number == i) ≡ true → list_any (leaves g) rs ≡ false
      → group_end (done s w (change s w (Accepted.Report j rs))).state i g ≡ cond (list_any (answers g) rs) (Some (full s)) (group_end s i g)
  unfolding done change
  done_end s w j rs here stays =
      let c : State × List Message = report_seen s j.number rs in
      same_end c.0 (settled s c w).0 (ap (λ (x : Rows). x.groups) (settled_same s c w))
      ∙ subst (λ (n : ℕ). group_end (report_seen s n rs).0 i g ≡ cond (list_any (answers g) rs) (Some (full s)) (group_end s i g))
      (sym (eqb-true j.number i here)) (report_end s rs stays)
