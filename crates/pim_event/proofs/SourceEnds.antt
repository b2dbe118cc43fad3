-- The end of a source's timer touches that source alone, where the row of its group stays as it is.
use Rattle.std.{proofs.Common.{◌≡◌, ℕ, ◌==◌, ◌&&◌, ◌||◌, Bool, true, false, not, List, [], ◌∷◌, Some, is_some, eq-eqb, refl, ap, sym, subst, ◌∙◌}, specs.{Cmp.{first_so, second_so}, List.{filter, list_all, list_any, Sorted.IsStrictlySortedBy}, Prelude.if◌then◌else◌}}
use Rattle.pim_types.{specs.{declared.fact.{Key.Key, SourceRecordRow.SourceRecordRow}, Keys.{group_in, iface_in, key_cmp, same_key, source_in, source_key, star_key}}, proofs.Keys.equal_keys}
use Rattle.pim_model.{specs.{Querier.{group_end, source_record_due}, Records.{is_at_group, with_repeats_of_rows}, State.State, Tables.{Table, change_row, drop_at, drop_where, keys_in}}}
use Rattle.law_settled.{specs.Laws.is_under_source, proofs.{ListLaws.{any_more, each_of_list}, RowChanges.{changed_elsewhere, dropped_elsewhere}, TableLaws.any_in_filter}}
use Rattle.law_events.{specs.{Locality.{AgreesBut, touching}, Scopes.{reads, scope}}, proofs.{Membership.source_end_here, Touches.source_records_agree}}
use Rattle.pim_querier.{proofs.OneSource.{AreSources, after, end_excludes, end_includes, endless}}
use Rattle.pim_event.{specs.Ends.{has_other_sources, keeps_group, touched_by_source}}

either_none : (b : Bool) → (b || false) ≡ false → b ≡ false
either_none true e = e
either_none false e = e

either_left : (b c : Bool) → (b || c) ≡ true → b ≡ false → c ≡ true
either_left true c e f = cc
either_left false c e f = e

module _ (i g src : ℕ) where
  abbrev alone : List Key
  alone = source_key 0 g src ∷ []

  abbrev own : Key
  own = source_key i g src

  away : (q : Key) → touching alone q ≡ false → reads q own ≡ false
  unfolding touching reads
  away q e = either_none (reads q (source_key 0 g src)) e

  -- a row of another source of the record stays where that of this one goes
  other_stays : (e : Key × SourceRecordRow) → (is_at_group i g e.0 && not (source_in e.0 == src)) ≡ true
      → (not (same_key own e.0) && is_at_group i g e.0) ≡ true
  other_stays e other = go (same_key own e.0) refl
    where
      go : (b : Bool) → same_key own e.0 ≡ b → (not b && is_at_group i g e.0) ≡ true
      go true is =
          let source : (source_in e.0 == src) ≡ true =
          ap (λ (k : Key). source_in k == src) (sym (equal_keys own e.0 is)) ∙ eq-eqb src src refl in
          cc (source, second_so (is_at_group i g e.0) (not (source_in e.0 == src)) other)
      go false is = first_so (is_at_group i g e.0) (not (source_in e.0 == src)) other

  others_left : (t : Table SourceRecordRow)
      → list_any (λ e. is_at_group i g e.0 && not (source_in e.0 == src)) t ≡ true
      → list_any (λ e. is_at_group i g e.0) (drop_at t own) ≡ true
  unfolding drop_at drop_where
  others_left t others =
      any_in_filter (λ (e : Key × SourceRecordRow). not (same_key own e.0)) (λ e. is_at_group i g e.0) t
      ∙ any_more (λ e. is_at_group i g e.0 && not (source_in e.0 == src))
      (λ e. not (same_key own e.0) && is_at_group i g e.0) other_stays t others

  module _ (s : State) (rise : IsStrictlySortedBy key_cmp (keys_in s.source_records)) (under : AreSources s.source_records) where
    abbrev Alone : State → Type 0
    Alone t = AgreesBut (touching alone) s t

    excludes_alone : is_some (group_end s i g) ≡ true → Alone (source_record_due s i g src)
    unfolding with_repeats_of_rows scope
    excludes_alone is =
        subst Alone (end_excludes i g src s rise under is)
        (source_records_agree (touching alone) s (change_row (λ _. Some (endless i g src)) own s.source_records)
        (λ h e. changed_elsewhere (reads h) (λ _. Some (endless i g src)) own (away h e) s.source_records))

    includes_alone : is_some (group_end s i g) ≡ false
        → list_any (λ e. is_at_group i g e.0) (drop_at s.source_records own) ≡ true → Alone (source_record_due s i g src)
    unfolding with_repeats_of_rows scope
    includes_alone is left =
        subst Alone
        (ap (λ (b : Bool). after i g src s rise under
        (if not b then drop_at s.group_records (star_key i g) else s.group_records) (drop_at s.source_records own))
        (sym left) ∙ end_includes i g src s rise under is)
        (source_records_agree (touching alone) s (drop_at s.source_records own)
        (λ h e. dropped_elsewhere (reads h) own (away h e) s.source_records))

    kept_alone : keeps_group s i g src ≡ true → Alone (source_record_due s i g src)
    unfolding keeps_group has_other_sources
    kept_alone keeps = go (is_some (group_end s i g)) refl
      where
        go : (b : Bool) → is_some (group_end s i g) ≡ b → Alone (source_record_due s i g src)
        go true is = excludes_alone is
        go false is =
            includes_alone is (others_left s.source_records (either_left (is_some (group_end s i g)) _ keeps is))

-- what a source's end touches
pub source_end_touches : (s : State) → IsStrictlySortedBy key_cmp (keys_in s.source_records)
    → list_all is_under_source s.source_records ≡ true → (k : Key)
    → AgreesBut (touching (touched_by_source s k ∷ [])) s
    (source_record_due s (iface_in k) (group_in k) (source_in k))
unfolding touched_by_source
source_end_touches s rise under k = go (keeps_group s i g src) refl
  where
    i : ℕ
    i = iface_in k

    g : ℕ
    g = group_in k

    src : ℕ
    src = source_in k

    go : (b : Bool) → keeps_group s i g src ≡ b
        → AgreesBut (touching ((if b then source_key 0 g src else star_key 0 g) ∷ [])) s (source_record_due s i g src)
    go true keeps = kept_alone i g src s rise (each_of_list is_under_source s.source_records under) keeps
    go false goes = source_end_here i g s src

-- whether another source is left, by a walk over those of the record
pub others_by_walk : (s : State) (i g src : ℕ) (rows : Table SourceRecordRow)
    → rows ≡ filter (λ e. is_at_group i g e.0) s.source_records
    → has_other_sources s i g src ≡ list_any (λ e. not (source_in e.0 == src)) rows
unfolding has_other_sources
others_by_walk s i g src rows are =
    sym (any_in_filter (λ (e : Key × SourceRecordRow). is_at_group i g e.0) (λ e. not (source_in e.0 == src)) s.source_records)
    ∙ ap (λ (t : Table SourceRecordRow). list_any (λ e. not (source_in e.0 == src)) t) (sym are)
