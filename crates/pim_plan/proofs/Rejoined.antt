-- A message that repeats what is known: it touches no key, makes no fact, and takes the rows that it joins to its end.
use Rattle.std.{proofs.{Common.{◌≡◌, ◌==◌, ◌&&◌, ◌++◌, ◌∙◌, ◌∷◌, ℕ, Bool, List, [], None, Option, Some, ap, append-nil, arith, cond, eq-eqb, false, filter, is_none, is_some, length, not, refl, suc, sym, true, zero}, lemmas.Bool.{Decides.nat_tests, or_left, or_right}}, specs.{Cmp.{Derive.both_true, first_so, second_so}, List.{AllByRecursion, list_all, list_any}, Prelude.{fold, if◌then◌else◌}}}
use Rattle.pim_types.{specs.{declared.fact.{AssertRow.AssertRow, DownstreamRow.DownstreamRow, Key.Key}, Keys.{group_in, is_of_group, is_on, same_key, star_key}}, proofs.Keys.{equal_keys, same_key_same}}
use Rattle.law_settled.{proofs.ListLaws.{any_among_all, each_append, each_both, each_filter, each_more, each_of_list}, specs.Ready.{IsOrdered, Rises}}
use Rattle.law_events.{specs.JoinPrunes.{moved_among, moves_end}, proofs.Puts.found_where_sorted}
use Rattle.pim_model.{specs.{Downstream.{asserts_after_joins, holdtime_end, is_named, joined_row, keys_taken, row_after, rpt_rows_joined, touched_keys}, Full.{distinct, keys_are_full, makeable_keys, needed, once_more, passes_limit}, Rows.{same_both, same_downstream}, Sets.is_loser, State.State, Tables.{Table, has_row, is_empty_list, keys_in, later_end, put, row_at, set_row}}}
use Rattle.pim_plan.{specs.Rejoining.{ends_none, is_again, is_extended, is_no_later, repeats, row_put, row_until, rows_put, rpt_keys_at}}

-- ---- lists

empty_is : {X : Type 0} (xs : List X) → is_empty_list xs ≡ true → xs ≡ []
empty_is [] e = refl
empty_is (x ∷ xs) e = cc

module _ {X : Type 0} (p : X → Bool) where
  left_step : (x : X) (xs : List X) (b : Bool) → p x ≡ b → b ≡ true → filter p xs ≡ xs
      → cond b (x ∷ filter p xs) (filter p xs) ≡ x ∷ xs
  left_step x xs true is e f = ap (λ (ys : List X). x ∷ ys) f
  left_step x xs false is e f = cc

  all_left : (xs : List X) → AllByRecursion (λ x. p x ≡ true) xs → filter p xs ≡ xs
  all_left [] e = refl
  all_left (x ∷ xs) e = left_step x xs (p x) refl e.0 (all_left xs e.1)

  none_step : (x : X) (xs : List X) (b : Bool) → b ≡ false → filter p xs ≡ []
      → cond b (x ∷ filter p xs) (filter p xs) ≡ []
  none_step x xs false e f = f
  none_step x xs true e f = cc

  none_left : (xs : List X) → AllByRecursion (λ x. p x ≡ false) xs → filter p xs ≡ []
  none_left [] e = refl
  none_left (x ∷ xs) e = none_step x xs (p x) e.0 (none_left xs e.1)

  later_step : (x : X) (xs : List X) (b : Bool) → cond b (x ∷ filter p xs) (filter p xs) ≡ [] → filter p xs ≡ []
  later_step x xs false e = e
  later_step x xs true e = cc

  first_step : (x : X) (xs : List X) (b : Bool) → cond b (x ∷ filter p xs) (filter p xs) ≡ [] → b ≡ false
  first_step x xs false e = refl
  first_step x xs true e = cc

-- a key is named by a list that has it
named_here : (ks : List Key) → AllByRecursion (λ k. list_any (same_key k) ks ≡ true) ks
named_here [] = tt
named_here (x ∷ xs) = (
  or_left (same_key x x) (list_any (same_key x) xs) (same_key_same x),
  each_more (λ k. list_any (same_key k) xs ≡ true) (λ k. list_any (same_key k) (x ∷ xs) ≡ true)
      (λ k e. or_right (same_key k x) (list_any (same_key k) xs) e) xs (named_here xs),
)

four : (a b c d : Bool) → (a && b && c && d) ≡ true → (a ≡ true) × (b ≡ true) × (c ≡ true) × (d ≡ true)
four true true true true e = (refl, refl, refl, refl)
four true true true false e = cc
four true true false d e = cc
four true false c d e = cc
four false b c d e = cc

unless : (b c : Bool) → (c ≡ true → b ≡ false) → not (b && c) ≡ true
unless true true f = ap not (f refl)
unless true false f = refl
unless false c f = refl

so_false : (b : Bool) → not b ≡ true → b ≡ false
so_false false e = refl
so_false true e = cc

chosen : {X : Type 0} (b c : Bool) (x y z : X) → b ≡ false → c ≡ true → cond b x (cond c y z) ≡ y
chosen false true x y z e f = refl
chosen false false x y z e f = cc
chosen true c x y z e f = cc

-- ---- a row that is taken to an end

later_of : (a b : Option ℕ) → is_no_later a b ≡ true → later_end a b ≡ b
later_of None None e = refl
later_of None (Some b) e = cc
later_of (Some a) None e = cc
later_of (Some a) (Some b) e = ap Some (grind (arith, nat_tests, e))

module _ (end : Option ℕ) where
  there : (o : Option DownstreamRow) → is_extended end o ≡ true → is_some o ≡ true
  unfolding is_extended
  there None e = cc
  there (Some r) e = refl

  taken_to : (holdtime : ℕ) (o : Option DownstreamRow) → is_extended end o ≡ true
      → joined_row end holdtime o ≡ Some (row_until end)
  unfolding is_extended
  taken_to holdtime None e = cc
  taken_to zero (Some r) e =
      ap (λ (x : Option ℕ). Some (row_until x)) (later_of r.expiry end (second_so (is_none r.pending) _ e))
  taken_to (suc n) (Some r) e =
      ap (λ (x : Option ℕ). Some (row_until x)) (later_of r.expiry end (second_so (is_none r.pending) _ e))

  same_but_end : (a b : Option ℕ) → is_none b ≡ true → is_no_later a end ≡ true
      → (let r : DownstreamRow = record { expiry = a; pending = b } in same_downstream r (row_until end)) ≡ true
  same_but_end a (Some b) e f = cc
  same_but_end a None e f = go a end f
    where
      go : (a end : Option ℕ) → is_no_later a end ≡ true
          → (let r : DownstreamRow = record { expiry = a; pending = None } in same_downstream r (row_until end)) ≡ true
      go None None f = refl
      go None (Some b) f = cc
      go (Some a) None f = cc
      go (Some a) (Some b) f = refl

  same_row : (o : Option DownstreamRow) → is_extended end o ≡ true
      → same_both same_downstream o (Some (row_until end)) ≡ true
  unfolding is_extended
  same_row None e = cc
  same_row (Some r) e =
      same_but_end r.expiry r.pending (first_so (is_none r.pending) _ e) (second_so (is_none r.pending) _ e)

-- ---- the message

module _ (s : State) (i holdtime : ℕ) (joined : List Key)
    (all : list_all (is_again s (holdtime_end s holdtime)) joined ≡ true) where
  abbrev end : Option ℕ
  end = holdtime_end s holdtime

  abbrev again : Key → Bool
  again k = is_again s end k

  each_named : (k : Key) → is_named joined k ≡ true → again k ≡ true
  unfolding is_named
  each_named k is =
      any_among_all (λ q. again q ≡ true) (same_key k) (λ q f same. ap again (equal_keys k q same) ∙ f) joined
      (each_of_list again joined all) is

  module _ (k : Key) (is : again k ≡ true) where
    its_parts : (not k.rpt ≡ true) × (is_extended end (row_at s.downstream k) ≡ true)
        × (not (is_loser (row_at s.asserts k)) ≡ true) × (ends_none s k ≡ true)
    unfolding is_again
    its_parts =
        four (not k.rpt) (is_extended end (row_at s.downstream k)) (not (is_loser (row_at s.asserts k))) (ends_none s k) is

    row_is_there : has_row s.downstream k ≡ true
    unfolding has_row
    row_is_there = there end (row_at s.downstream k) its_parts.1

    module _ (named : is_named joined k ≡ true) where
      row_then : row_after s i holdtime joined [] k ≡ Some (row_until end)
      unfolding row_after is_named
      row_then =
          chosen k.rpt (is_named joined k) _ _ _ (so_false k.rpt its_parts.0) named
          ∙ taken_to end holdtime (row_at s.downstream k) its_parts.1

      end_alone : moves_end s i holdtime joined [] k ≡ true
      unfolding moves_end
      end_alone =
          both_true
          (ap (same_both same_downstream (row_at s.downstream k)) row_then
          ∙ same_row end (row_at s.downstream k) its_parts.1)
          (unless (is_loser (row_at s.asserts k)) (is_named joined k) (λ e. so_false _ its_parts.2))

  -- ---- no (S,G,rpt) row of a joined group

  abbrev joined_too : Key → Bool
  joined_too q = is_on i q && q.rpt && is_named joined (star_key i (group_in q))

  abbrev beside : Key → Key → Bool
  beside k q = is_on i q && q.rpt && is_of_group (group_in k) q

  beside_itself : (q : Key) → joined_too q ≡ true → beside q q ≡ true
  beside_itself q e =
      both_true (first_so (is_on i q && q.rpt) _ e) (eq-eqb (group_in q) (group_in q) refl)

  none_joined : (xs : List Key) → ((q : Key) → joined_too q ≡ true → filter (beside q) xs ≡ [])
      → AllByRecursion (λ q. joined_too q ≡ false) xs
  none_joined [] f = tt
  none_joined (x ∷ xs) f = (
    go (joined_too x) refl,
    none_joined xs (λ q e. later_step (beside q) x xs (beside q x) (f q e)),
  )
    where
      go : (b : Bool) → joined_too x ≡ b → b ≡ false
      go false is = refl
      go true is = cc (beside_itself x is, first_step (beside x) x xs (beside x x) (f x is))

  none_beside : (q : Key) → joined_too q ≡ true → filter (beside q) (keys_in s.downstream) ≡ []
  unfolding rpt_keys_at
  none_beside q e =
      let star : Key = star_key i (group_in q) in
      let is : again star ≡ true = each_named star (second_so (is_on i q && q.rpt) _ e) in
      empty_is (filter (beside q) (keys_in s.downstream)) (its_parts star is).3

  no_rpt_rows : rpt_rows_joined s i joined ≡ []
  unfolding rpt_rows_joined
  no_rpt_rows =
      none_left joined_too (keys_in s.downstream) (none_joined (keys_in s.downstream) none_beside)

  their_keys : touched_keys s i joined [] ≡ joined
  unfolding touched_keys
  their_keys =
      ap (λ (ks : List Key). (joined ++ []) ++ ks) no_rpt_rows ∙ append-nil (joined ++ []) ∙ append-nil joined

  each_again : AllByRecursion (λ k. (again k ≡ true) × (is_named joined k ≡ true)) joined
  unfolding is_named
  each_again =
      each_both (λ k. again k ≡ true) (λ k. list_any (same_key k) joined ≡ true) _ (λ k e f. (e, f)) joined
      (each_of_list again joined all) (named_here joined)

  none_moved : moved_among s i holdtime joined [] ≡ []
  unfolding moved_among
  none_moved =
      ap (filter (λ k. not (moves_end s i holdtime joined [] k))) their_keys
      ∙ none_left (λ k. not (moves_end s i holdtime joined [] k)) joined
      (each_more _ _ (λ k e. ap not (end_alone k e.0 e.1)) joined each_again)

  -- ---- the tables

  rows_then : (row : Key → Option DownstreamRow) (new : DownstreamRow) (ks : List Key) (t : Table DownstreamRow)
      → AllByRecursion (λ k. row k ≡ Some new) ks
      → fold (λ t k. set_row t k (row k)) t ks ≡ fold (λ t k. put t k new) t ks
  unfolding set_row
  rows_then row new [] t e = refl
  rows_then row new (k ∷ ks) t e =
      ap (λ (o : Option DownstreamRow). fold (λ t k. set_row t k (row k)) (set_row t k o) ks) e.0
      ∙ rows_then row new ks (put t k new) e.1

  asserts_stay : Rises s.asserts → asserts_after_joins s joined ≡ s.asserts
  unfolding asserts_after_joins
  asserts_stay rises =
      all_left (λ e. not (is_loser (Some e.1) && is_named joined e.0)) s.asserts
      (each_more (λ e. row_at s.asserts e.0 ≡ Some e.1) _
      (λ e found. unless (is_loser (Some e.1)) (is_named joined e.0)
      (λ named. so_false _ (ap (λ (o : Option AssertRow). not (is_loser o)) (sym found) ∙ (its_parts e.0 (each_named e.0 named)).2)))
      s.asserts (found_where_sorted s.asserts rises))

  taken_again : Rises s.asserts → keys_taken s i holdtime joined []
      ≡ record s { downstream = fold (λ t k. put t k (row_until end)) s.downstream joined }
  unfolding keys_taken
  taken_again rises = λ j. record s {
    downstream =
        (ap (λ (ks : List Key). fold (λ t k. set_row t k (row_after s i holdtime joined [] k)) s.downstream ks) their_keys
        ∙ rows_then (row_after s i holdtime joined []) (row_until end) joined s.downstream
        (each_more _ _ (λ k e. row_then k e.0 e.1) joined each_again)) j;
    asserts = asserts_stay rises j;
  }

  -- ---- no room is needed

  module _ (t : Table DownstreamRow) where
    abbrev lacking : Key → Bool
    lacking k = not (has_row t k)

    none_lacks : (found : List Key) (k : Key) → has_row t k ≡ true → AllByRecursion (λ q. lacking q ≡ false) found
        → AllByRecursion (λ q. lacking q ≡ false) (once_more found k)
    unfolding once_more
    none_lacks found k is none = go (is_named found k)
      where
        more : (xs : List Key) → AllByRecursion (λ q. lacking q ≡ false) xs
            → AllByRecursion (λ q. lacking q ≡ false) (xs ++ k ∷ [])
        more [] e = (ap not is, tt)
        more (x ∷ xs) e = (e.0, more xs e.1)

        go : (b : Bool) → AllByRecursion (λ q. lacking q ≡ false) (if b then found else found ++ k ∷ [])
        go true = none
        go false = more found none

    none_lack : (ks found : List Key) → AllByRecursion (λ k. has_row t k ≡ true) ks
        → AllByRecursion (λ q. lacking q ≡ false) found → AllByRecursion (λ q. lacking q ≡ false) (fold once_more found ks)
    none_lack [] found e none = none
    none_lack (k ∷ ks) found e none = none_lack ks (once_more found k) e.1 (none_lacks found k e.0 none)

    none_needed : (ks : List Key) → AllByRecursion (λ k. has_row t k ≡ true) ks → needed t ks ≡ 0
    unfolding needed distinct
    none_needed ks e = ap (λ (xs : List Key). length xs) (none_left lacking (fold once_more [] ks) (none_lack ks [] e tt))

  never_so : (b : Bool) → (b && false) ≡ false
  never_so true = refl
  never_so false = refl

  fits_in : keys_are_full s holdtime joined [] ≡ false
  unfolding keys_are_full passes_limit makeable_keys
  fits_in =
      ap (λ (n : ℕ). not (holdtime == 0) && passes_limit s n)
      (none_needed s.downstream (filter (λ k. not k.rpt) joined ++ [])
      (each_append _ (filter (λ k. not k.rpt) joined) []
      (each_filter _ (λ k. not k.rpt) joined (each_more _ _ (λ k e. row_is_there k e.0) joined each_again)) tt))
      ∙ never_so (not (holdtime == 0))

-- ---- whatever it may prune

put_in_table : (row : DownstreamRow) (ks : List Key) (s : State)
    → rows_put row s ks ≡ record s { downstream = fold (λ t k. put t k row) s.downstream ks }
unfolding rows_put row_put
put_in_table row [] s = refl
put_in_table row (k ∷ ks) s = put_in_table row ks (row_put row s k)

module _ (s : State) (i holdtime : ℕ) (joined pruned : List Key) (is : repeats s holdtime joined pruned ≡ true) where
  all_again : list_all (is_again s (holdtime_end s holdtime)) joined ≡ true
  unfolding repeats
  all_again = second_so (is_empty_list pruned) _ is

  none_pruned : pruned ≡ []
  unfolding repeats
  none_pruned = empty_is pruned (first_so (is_empty_list pruned) _ is)

  -- no key is touched
  pub touches_none : moved_among s i holdtime joined pruned ≡ []
  touches_none = ap (moved_among s i holdtime joined) none_pruned ∙ none_moved s i holdtime joined all_again

  -- no room is needed
  pub needs_none : keys_are_full s holdtime joined pruned ≡ false
  needs_none = ap (keys_are_full s holdtime joined) none_pruned ∙ fits_in s i holdtime joined all_again

  -- the rows that it joins are taken to its end
  pub takes_ends : IsOrdered s
      → rows_put (row_until (holdtime_end s holdtime)) s joined ≡ keys_taken s i holdtime joined pruned
  takes_ends ordered =
      put_in_table (row_until (holdtime_end s holdtime)) joined s
      ∙ sym (taken_again s i holdtime joined all_again ordered.asserts)
      ∙ ap (keys_taken s i holdtime joined) (sym none_pruned)
