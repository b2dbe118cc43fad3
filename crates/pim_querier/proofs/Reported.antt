-- A group record of a report, applied to what is known of its group.
use Rattle.std.{proofs.{Common.{◌≡◌, ◌<◌, ℕ, ◌++◌, true, false, List, [], ◌∷◌, append-nil, arith, length, map, refl, sym, ap, subst, ◌∙◌}, lemmas.List.length-map}, specs.{List.Sorted.IsStrictlySortedBy, Ordering.nat_cmp}}
use Rattle.igmp_wire.{specs.Values.Record}
use Rattle.pim_filters.{specs.{Members.{IsAscending, member_entries}, declared.member.Member.Member}}
use Rattle.pim_types.{specs.{declared.fact.{Key.Key, SourceRecordRow.SourceRecordRow}, Keys.source_in}}
use Rattle.pim_model.{specs.{Querier.{each_in_turn, is_querier, query_asked, record_seen}, Records.{Asked, Member as Entry, members_of, with_record}, State.State, Tables.Table}}
use Rattle.pim_querier.{specs.{Changes.applied, Reports.AsksAlike}}

-- the numbers of the members are the sources of the rows
pub numbers_of_rows : (rows : Table SourceRecordRow)
    → map (λ (m : Entry). m.0) (members_of rows) ≡ map (λ e. source_in e.0) rows
unfolding members_of
numbers_of_rows [] = refl
numbers_of_rows (e ∷ rows) = ap (λ (ns : List ℕ). source_in e.0 ∷ ns) (numbers_of_rows rows)

-- the members rise where the sources of the rows do
pub members_rise : (rows : Table SourceRecordRow) (ms : List Member) → member_entries ms ≡ members_of rows
    → IsStrictlySortedBy nat_cmp (map (λ e. source_in e.0) rows) → IsAscending (member_entries ms)
unfolding members_of
members_rise rows ms are rise =
    subst IsAscending (sym are) (subst (IsStrictlySortedBy nat_cmp) (sym (numbers_of_rows rows)) rise)

-- all that were read are those of the rows
pub all_read : (rows left : Table SourceRecordRow) (ms : List Member) (whole : List Entry) → left ≡ []
    → member_entries ms ++ members_of left ≡ whole → members_of rows ≡ whole → member_entries ms ≡ members_of rows
unfolding members_of
all_read rows left ms whole none so_far are =
    sym (append-nil (member_entries ms)) ∙ ap (λ (t : Table SourceRecordRow). member_entries ms ++ members_of t) (sym none)
    ∙ so_far ∙ sym are

-- there are as many of them
pub rows_near : (n : ℕ) (rows : Table SourceRecordRow) (ms : List Member) → member_entries ms ≡ members_of rows
    → (0 < length rows → n < 120) → 0 < length (member_entries ms) → n < 120
unfolding members_of
rows_near n rows ms are near some =
    let as_many : length (member_entries ms) ≡ length rows =
    ap (λ (es : List Entry). length es) are
    ∙ length-map rows (λ (e : Key × SourceRecordRow). let m : Entry = (source_in e.0, (e.1).end) in m) in
    near (omega (arith, as_many, some))

module _ (s : State) (i : ℕ) (r : Record) where
  abbrev written : State
  written = with_record s i r.group (applied s i r).0

  pub seen_by_querier : (w : State) (g : ℕ) (asked : List Asked) → is_querier s i ≡ true → g ≡ r.group → w ≡ written
      → AsksAlike s i r.group (applied s i r) asked → each_in_turn (query_asked i g) w asked ≡ record_seen i s r
  unfolding record_seen
  seen_by_querier w g asked queries group is alike =
      (λ j. each_in_turn (query_asked i (group j)) (is j) asked) ∙ alike ∙ rw queries refl

  pub seen_by_other : is_querier s i ≡ false → record_seen i s r ≡ (written, [])
  unfolding record_seen
  seen_by_other queries = rw queries refl
