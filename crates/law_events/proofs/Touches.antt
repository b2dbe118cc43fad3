-- Which keys a change touches.
use Rattle.std.{proofs.{Common.{◌≡◌, ◌==◌, ◌&&◌, ◌||◌, ℕ, Bool, true, false, not, cond, List, [], ◌∷◌, ◌++◌, fold, map, Option, Some, refl, sym, ◌∙◌, subst, arith}, lemmas.{Bool.{or_left, or_right}, List.Folds.{list_all-append, list_any-append}}}, specs.{Cmp.{first_so, second_so, Derive.both_true}, List.{filter, list_all, list_any}}}
use Rattle.pim_types.{specs.{Keys.{group_in, is_on, same_key, star_key}, declared.fact.{AssertRow.AssertRow, DownstreamRow.DownstreamRow, GroupRecordRow.GroupRecordRow, Key.Key, RegisterRow.RegisterRow, SourceRecordRow.SourceRecordRow, SourceRow.SourceRow}}, proofs.Keys.{equal_keys, same_key_same}}
use Rattle.pim_wire.{specs.Values.JoinPrune}
use Rattle.pim_model.{specs.{Downstream.{asserts_after_joins, is_named, joined_keys, keys_taken, pruned_keys, row_after, rpt_rows_joined, to_me, touched_keys}, Sets.is_loser, State.State, Tables.{Table, rows_where, set_row}}}
use Rattle.law_settled.{proofs.{ListLaws.any_more, RowChanges.{filtered_elsewhere, set_elsewhere}}}
use Rattle.law_events.{specs.{Locality.{AgreesBut, IsClosed, touching}, Scopes.{modes_read, only_kept, only_kind, only_mode, only_registered, only_side, only_winner, reads, scope}}, proofs.{Asserts.{reads_itself, reads_through, stars_read}, TouchedClearing.unread, TouchedUpstream.reads_star}}

-- ---- one table changes

abbrev pub RowsBut : {R : Type 0} → (Key → Bool) → Table R → Table R → Type 0
RowsBut touches t u = (k : Key) → touches k ≡ false → rows_where (reads k) t ≡ rows_where (reads k) u

pub agrees_then : (touches : Key → Bool) (s t u : State) → AgreesBut touches s t → AgreesBut touches t u
    → AgreesBut touches s u
agrees_then touches s t u f g h e = f h e ∙ g h e

module _ (touches : Key → Bool) (s : State) where
  pub agrees_same : AgreesBut touches s s
  agrees_same h e = refl

  pub downstream_agrees : (rows : Table DownstreamRow) → RowsBut touches rows s.downstream
      → AgreesBut touches s (record s { downstream = rows })
  unfolding scope
  downstream_agrees rows but h e = sym (λ j. record (scope (reads h) s) { downstream = map only_kind (but h e j) })

  pub asserts_agree : (rows : Table AssertRow) → RowsBut touches rows s.asserts
      → AgreesBut touches s (record s { asserts = rows })
  unfolding scope
  asserts_agree rows but h e = sym (λ j. record (scope (reads h) s) { asserts = map only_winner (but h e j) })

  pub sources_agree : (rows : Table SourceRow) → RowsBut touches rows s.sources
      → AgreesBut touches s (record s { sources = rows })
  unfolding scope
  sources_agree rows but h e = sym (λ j. record (scope (reads h) s) { sources = map only_kept (but h e j) })

  pub registers_agree : (rows : Table RegisterRow) → RowsBut touches rows s.registers
      → AgreesBut touches s (record s { registers = rows })
  unfolding scope
  registers_agree rows but h e = sym (λ j. record (scope (reads h) s) { registers = map only_registered (but h e j) })

  pub group_records_agree : (rows : Table GroupRecordRow) → RowsBut touches rows s.group_records
      → AgreesBut touches s (record s { group_records = rows })
  unfolding scope
  group_records_agree rows but h e = sym (λ j. record (scope (reads h) s) {
    group_records = modes_read (map only_mode (but h e j)) (map only_side (rows_where (reads h) s.source_records));
  })

  pub source_records_agree : (rows : Table SourceRecordRow) → RowsBut touches rows s.source_records
      → AgreesBut touches s (record s { source_records = rows })
  unfolding scope
  source_records_agree rows but h e = sym (λ j. record (scope (reads h) s) {
    group_records = modes_read (map only_mode (rows_where (reads h) s.group_records)) (map only_side (but h e j));
    source_records = map only_side (but h e j);
  })

-- ---- the keys that are touched

pub touching_is_closed : (keys : List Key) → IsClosed (touching keys)
unfolding touching
touching_is_closed keys k q e f = any_more (reads k) (reads q) (λ c g. reads_through q k c f g) keys e

-- what isn't touched reads no row under a key that reads a touched one, such as the touched ones
pub unread_of : (keys : List Key) (k q : Key) → touching keys k ≡ true → touching keys q ≡ false → reads q k ≡ false
unread_of keys k q is e = unread (touching keys) (touching_is_closed keys) k q is e

pub touches_itself : (k : Key) → touching (k ∷ []) k ≡ true
unfolding touching
touches_itself k = or_left (reads k k) false (reads_itself k)

-- all keys of a group
pub touched_with_group : (g : ℕ) (k : Key) → (group_in k == g) ≡ true → touching (star_key 0 g ∷ []) k ≡ true
unfolding touching
touched_with_group g k e = or_left (reads k (star_key 0 g)) false (reads_star g k e)

-- a key is touched where it is one of them
pub named_touches : (keys : List Key) (k : Key) → is_named keys k ≡ true → touching keys k ≡ true
unfolding is_named touching
named_touches keys k e =
    any_more (same_key k) (reads k) (λ q f. subst (λ (x : Key). reads k x ≡ true) (equal_keys k q f) (reads_itself k))
    keys e

-- more keys touch more
pub widened : (keys more : List Key) (s t : State) → list_all (touching more) keys ≡ true
    → AgreesBut (touching keys) s t → AgreesBut (touching more) s t
unfolding touching
widened keys more s t all agree q e = agree q (untouched keys all)
  where
    step : (k : Key) (b c : Bool) → reads q k ≡ b → (touching more k) ≡ true → c ≡ false → (b || c) ≡ false
    step k true c r is f = cc (unread_of more k q is e, r)
    step k false c r is f = f

    untouched : (ks : List Key) → list_all (touching more) ks ≡ true → list_any (reads q) ks ≡ false
    untouched [] all = refl
    untouched (k ∷ ks) all =
        step k (reads q k) (list_any (reads q) ks) refl (first_so (touching more k) (list_all (touching more) ks) all)
        (untouched ks (second_so (touching more k) (list_all (touching more) ks) all))

-- ---- rows set under many keys

module _ {R : Type 0} (row : Key → Option R) (touched : List Key) where
  pub all_set_elsewhere : (ks : List Key) (t : Table R) → list_all (touching touched) ks ≡ true
      → RowsBut (touching touched) (fold (λ t k. set_row t k (row k)) t ks) t
  all_set_elsewhere [] t all q e = refl
  all_set_elsewhere (k ∷ ks) t all q e =
      all_set_elsewhere ks (set_row t k (row k)) (second_so (touching touched k) (list_all (touching touched) ks) all) q
      e
      ∙ set_elsewhere (reads q) k
      (unread_of touched k q (first_so (touching touched k) (list_all (touching touched) ks) all) e) t (row k)

-- ---- a Join/Prune touches its keys

module _ (s : State) (i holdtime : ℕ) (joined pruned : List Key) where
  abbrev touched : List Key
  touched = joined ++ pruned

  abbrev is_touched : Key → Bool
  is_touched = touching touched

  either_named : (ks qs : List Key) (k : Key) → is_named ks k ≡ true → is_named (ks ++ qs) k ≡ true
  unfolding is_named
  either_named ks qs k e = grind (arith, list_any-append, or_left)

  all_named : (ks : List Key) → ((k : Key) → is_named ks k ≡ true → is_touched k ≡ true) → list_all is_touched ks ≡ true
  unfolding is_named
  all_named [] f = refl
  all_named (k ∷ ks) f =
      both_true (f k (or_left (same_key k k) (list_any (same_key k) ks) (same_key_same k)))
      (all_named ks (λ q e. f q (or_right (same_key q k) (list_any (same_key q) ks) e)))

  -- the (S,G,rpt) rows of joined groups
  abbrev is_of_joined : Key → Bool
  is_of_joined k = is_on i k && k.rpt && is_named joined (star_key i (group_in k))

  star_joined : (k : Key) → is_named joined (star_key i (group_in k)) ≡ true → is_touched k ≡ true
  star_joined k e =
      touching_is_closed touched (star_key i (group_in k)) k
      (named_touches touched (star_key i (group_in k)) (either_named joined pruned (star_key i (group_in k)) e))
      (stars_read k i)

  rpt_step : (k : Key) (ks : List Key) (b : Bool) → is_of_joined k ≡ b
      → list_all is_touched (filter is_of_joined ks) ≡ true
      → list_all is_touched (cond b (k ∷ filter is_of_joined ks) (filter is_of_joined ks)) ≡ true
  rpt_step k ks b e ih = grind (arith, star_joined)

  rpt_in : (ks : List Key) → list_all is_touched (filter is_of_joined ks) ≡ true
  rpt_in [] = refl
  rpt_in (k ∷ ks) = rpt_step k ks (is_of_joined k) refl (rpt_in ks)

  all_both : (xs ys : List Key) → list_all is_touched xs ≡ true → list_all is_touched ys ≡ true
      → list_all is_touched (xs ++ ys) ≡ true
  all_both xs ys e f = list_all-append is_touched xs ys ∙ both_true e f

  touched_in : list_all is_touched (touched_keys s i joined pruned) ≡ true
  unfolding touched_keys rpt_rows_joined
  touched_in = grind (arith, all_both, all_named, named_touches, rpt_in)

  asserts_kept : (q : Key) → is_touched q ≡ false → (e : Key × AssertRow) → reads q e.0 ≡ true
      → not (is_loser (Some e.1) && is_named joined e.0) ≡ true
  asserts_kept q f e g = go (is_loser (Some e.1)) (is_named joined e.0) refl
    where
      go : (b c : Bool) → is_named joined e.0 ≡ c → not (b && c) ≡ true
      go true true n =
          cc (touching_is_closed touched e.0 q (named_touches touched e.0 (either_named joined pruned e.0 n)) g, f)
      go true false n = refl
      go false c n = refl

  pub keys_touch : AgreesBut (touching (joined ++ pruned)) s (keys_taken s i holdtime joined pruned)
  unfolding keys_taken asserts_after_joins
  keys_touch =
      let after : Key → Option DownstreamRow = row_after s i holdtime joined pruned in
      let rows : Table DownstreamRow =
      fold (λ t k. set_row t k (after k)) s.downstream (touched_keys s i joined pruned) in
      agrees_then is_touched s (record s { downstream = rows }) _
      (downstream_agrees is_touched s rows
      (all_set_elsewhere after touched (touched_keys s i joined pruned) s.downstream touched_in))
      (asserts_agree is_touched (record s { downstream = rows }) _
      (λ q f. filtered_elsewhere (reads q) (λ e. not (is_loser (Some e.1) && is_named joined e.0)) (asserts_kept q f)
      s.asserts))

pub join_prune_touches : (s : State) (i : ℕ) (m : JoinPrune)
    → AgreesBut (touching (joined_keys s i m ++ pruned_keys i m)) s (to_me s i m)
unfolding to_me
join_prune_touches s i m = keys_touch s i m.holdtime (joined_keys s i m) (pruned_keys i m)
