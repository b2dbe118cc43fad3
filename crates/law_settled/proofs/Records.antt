-- IGMP's records keep their ends late, and leave a fine state.
use Rattle.std.{proofs.Common.{◌≡◌, ℕ, Bool, true, not, cond, ◌&&◌, List, [], ◌∷◌, fold, filter, Option, Some, sym, ap, ◌∙◌, eqb-true, arith}, specs.{Cmp.first_so, List.{AllByRecursion, list_any}, Prelude.option_and_then}}
use Rattle.pim_types.{specs.{declared.fact.{GroupRecordRow.GroupRecordRow, Key.Key, SendingRow.SendingRow, SourceRecordRow.SourceRecordRow}, Keys.{is_on, is_of_group, iface_in, source_in, source_key, star_key}}, proofs.Keys.same_key_same}
use Rattle.igmp_wire.{specs.declared.report.RecordType.RecordType}
use Rattle.pim_model.{specs.{Records.{GroupRecord, Member, apply_record, group_expired, is_at_group, is_no_record, members_of, put_member, record_of, source_expired, with_members, with_record, with_repeats_of_rows}, State.State, Tables.{Table, drop_at, drop_where, has_row, put, row_at}}}
use Rattle.law_settled.{proofs.{ListLaws.{by_cond, each_map, each_passing}, Parts.{GroupRecords, GroupRepeats, Sendings, SourceRecords, SourceRepeats}, RecordLaws.{EndsSo, RecordSo, applied_so, group_expired_so, source_expired_so}, FineTables.{Fine, fine_drop_at, fine_drop_where, fine_put, good_row}, FineStates.{Runs, Good, IsFine, rows_fine, with_row, without_rows, without_row_unless}}}

module _ (late : ℕ → Bool) (here : Type 0) where
  -- a late end, on an interface that is up
  abbrev LateHere : ℕ → Type 0
  LateHere end = (late end ≡ true) × here

  abbrev GoodEnd : Type 0 → Option ℕ → Type 0
  GoodEnd never end = EndsSo never LateHere end

  abbrev pub GoodRecord : GroupRecord → Type 0
  GoodRecord r = RecordSo (λ timed. here) (λ src end. LateHere end) LateHere r

  pub applied_good : here → (full : ℕ) → late full ≡ true → (r : GroupRecord) → GoodRecord r
      → (type : RecordType) (sources : List ℕ)
      → GoodRecord (apply_record full r type sources).0
  applied_good at full h r f type sources =
      applied_so (λ timed. here) (λ src end. LateHere end) LateHere (λ src end g. g) (λ end g. g.1) (λ src end g. g.1)
      full sources r type (record { all = λ e. (h, at); named = λ e src named. (h, at) }) f

  pub group_expired_good : (now : ℕ) (r : GroupRecord) → GoodRecord r → GoodRecord (group_expired now r)
  group_expired_good now r f =
      group_expired_so (λ timed. here) (λ src end. LateHere end) LateHere (λ src end g. g) (λ end g. g.1)
      (λ src end g. g.1) now r f

  pub source_expired_good : (src : ℕ) (r : GroupRecord) → GoodRecord r → GoodRecord (source_expired src r)
  source_expired_good src r f =
      source_expired_so (λ timed. here) (λ src end. LateHere end) LateHere (λ src end g. g) (λ end g. g.1)
      (λ src end g. g.1) src r f

  -- ---- the ends of rows

  good_end : (never : Type 0) (end : Option ℕ) → Runs late end → here → never → GoodEnd never end
  good_end never end f at none = grind arith

  end_runs : (never : Type 0) (end : Option ℕ) → GoodEnd never end → Runs late end
  end_runs never end f = grind arith

  end_is_here : (end : Option ℕ) → GoodEnd here end → here
  end_is_here end f = grind arith

  abbrev GoodMember : Member → Type 0
  GoodMember p = GoodEnd here p.1

  row_timer : (o : Option GroupRecordRow) → ((r : GroupRecordRow) → o ≡ Some r → Runs late r.end × here)
      → GoodEnd (Unit {0}) (option_and_then (λ (r : GroupRecordRow). r.end) o)
  row_timer o good = grind (arith, good_end)

module _ (m : ℕ) (late up : ℕ → Bool) where
  on_up : (i g : ℕ) (k : Key) → up (iface_in k) ≡ true → is_at_group i g k ≡ true → up i ≡ true
  on_up i g k h e = ap up (sym (eqb-true (iface_in k) i (first_so (is_on i k) (is_of_group g k) e))) ∙ h

  pub record_good : (s : State) (i g : ℕ) → IsFine m late up s → GoodRecord late (up i ≡ true) (record_of s i g)
  unfolding record_of members_of
  record_good s i g f = record {
    timer = row_timer late (up i ≡ true) (row_at s.group_records (star_key i g))
        (λ r e. let its : Good late up GroupRecords (star_key i g, r) = good_row (Good late up GroupRecords)
        s.group_records (star_key i g) r (f.tables GroupRecords) e in (its.1, its.2));
    members =
        each_map (λ e. Good late up SourceRecords e × (is_at_group i g e.0 ≡ true)) (GoodMember late (up i ≡ true))
        (λ (e : Key × SourceRecordRow). let p : Member = (source_in e.0, (e.1).end) in p)
        (λ e h. let here : up i ≡ true = on_up i g e.0 (h.0).2 h.1 in
        good_end late (up i ≡ true) (up i ≡ true) (e.1).end (h.0).1 here here)
        (filter (λ e. is_at_group i g e.0) s.source_records)
        (each_passing (Good late up SourceRecords) (λ e. is_at_group i g e.0) s.source_records
        (f.tables SourceRecords).each);
  }

  put_members_fine : (i g : ℕ) (ms : List Member) (t : Table SourceRecordRow)
      → AllByRecursion (GoodMember late (up i ≡ true)) ms → Fine (Good late up SourceRecords) t
      → Fine (Good late up SourceRecords) (fold (put_member i g) t ms)
  put_members_fine i g [] t f h = h
  put_members_fine i g (p ∷ ps) t f h =
      put_members_fine i g ps (put_member i g t p) f.1
      (fine_put (Good late up SourceRecords) t (source_key i g p.0) (record { end = p.1 }) (
        same_key_same (source_key i g p.0),
        end_runs late (up i ≡ true) (up i ≡ true) p.1 f.0,
        end_is_here late (up i ≡ true) p.1 f.0,
      ) h)

  repeats_fine : (s : State) (i g : ℕ) → IsFine m late up s → IsFine m late up (with_repeats_of_rows s i g)
  unfolding with_repeats_of_rows
  repeats_fine s i g f =
      let sendings : Table SendingRow =
      drop_where (λ k. is_at_group i g k && not (has_row s.source_records k)) s.sendings in
      let has_sendings : Bool = list_any (λ (e : Key × SendingRow). is_at_group i g e.0) sendings in
      let has_record : Bool = has_row s.group_records (star_key i g) in
      let one : State =
      record s { group_repeats = cond has_record s.group_repeats (drop_at s.group_repeats (star_key i g)) } in
      let two : State =
      record one { source_repeats = cond has_sendings s.source_repeats (drop_at s.source_repeats (star_key i g)) } in
      without_rows m late up Sendings tt two
      (without_row_unless m late up SourceRepeats tt one
      (without_row_unless m late up GroupRepeats tt s f has_record (star_key i g)) has_sendings (star_key i g))
      (λ k. is_at_group i g k && not (has_row s.source_records k))

  pub members_fine : (s : State) (i g : ℕ) (r : GroupRecord) → GoodRecord late (up i ≡ true) r → IsFine m late up s
      → IsFine m late up (with_members s i g r)
  unfolding with_members
  members_fine s i g r good f =
      let groups : Table GroupRecordRow =
      cond (is_no_record r) (drop_at s.group_records (star_key i g)) s.group_records in
      let others : Table SourceRecordRow = drop_where (is_at_group i g) s.source_records in
      let one : State = record s { group_records = groups } in
      let a : IsFine m late up one =
      rows_fine m late up GroupRecords tt s f groups
      (by_cond (Fine (Good late up GroupRecords)) (is_no_record r) _ s.group_records
      (fine_drop_at (Good late up GroupRecords) s.group_records (star_key i g) (f.tables GroupRecords))
      (f.tables GroupRecords)) in
      repeats_fine (record one { source_records = fold (put_member i g) others r.members }) i g
      (rows_fine m late up SourceRecords tt one a (fold (put_member i g) others r.members)
      (put_members_fine i g r.members others good.members
      (fine_drop_where (Good late up SourceRecords) (is_at_group i g) s.source_records (f.tables SourceRecords))))

  pub record_fine : (s : State) (i g : ℕ) (r : GroupRecord) → up i ≡ true → GoodRecord late (up i ≡ true) r
      → IsFine m late up s → IsFine m late up (with_record s i g r)
  unfolding with_record
  record_fine s i g r here good f =
      let timed : State = record s { group_records = put s.group_records (star_key i g) (record { end = r.timer }) } in
      members_fine timed i g r good
      (with_row m late up GroupRecords tt s f (star_key i g) (record { end = r.timer })
      (same_key_same (star_key i g), end_runs late (up i ≡ true) (Unit {0}) r.timer good.timer, here))
