-- A Join/Prune touches the keys whose rows it changes in more than an end, and those whose lost asserts it ends.
use Rattle.std.{proofs.{Common.{◌≡◌, ◌&&◌, ◌||◌, ℕ, Bool, true, false, not, cond, List, [], ◌∷◌, fold, Option, Some, None, is_some, refl, sym, ap, ◌∙◌, arith}, lemmas.{Bool.{or_left, or_right}, List.Folds.list_any-append}}, specs.{Cmp.{first_so, second_so}, List.{filter, list_any}}}
use Rattle.pim_types.{specs.{declared.{config.IfaceId.IfaceId, fact.{AssertRow.AssertRow, DownstreamRow.DownstreamRow, Key.Key}}, Keys.same_key}, proofs.Keys.{equal_keys, same_key_same}}
use Rattle.pim_wire.{specs.Values.JoinPrune}
use Rattle.pim_model.{specs.{declared.accepted.Accepted.Accepted, Downstream.{asserts_after_joins, is_named, joined_keys, keys_taken, pruned_keys, row_after, to_me, touched_keys}, Firing.settled, Rows.{same_both, same_downstream}, Sets.is_loser, State.State, Step.change, Tables.{Table, drop_at, drop_where, has_row, keys_in, row_at, set_row}, Writing.write_all}}
use Rattle.law_settled.{proofs.{RowLaws.{has_row_without, row_drop_away, row_put, row_put_away}, TableLaws.any_in_filter, RisingKeys.{sorted_of_up, up_filter, up_of_sorted, up_put}}, specs.Ready.{IsOrdered, Rises}}
use Rattle.law_events.{specs.{Differing.{IsShared, is_same_at, same_at}, Events.own_change, JoinPrunes.{moved_among, moved_keys, moves_end}, Locality.{AgreesBut, IsQuiet, own_settled, touching}}, proofs.{Differing.{all_six, named_keys_cover, nothing_follows, parts_at, passing_named, row_named}, NewKeys.{lone, one_of, passes_among}, SameRows.{IsOfCut, of_asserts, of_downstream, of_group_records, of_source_records}, Settling.settling_is_own, SourceMacros.{cut_kind, cut_source}, StarMacros.{cut_assert, cut_group}, Touches.named_touches}}

-- ---- rows set one after the other

pub unequal : (k q : Key) → same_key k q ≡ false → q ≡ k → ⊥
unequal k q e same = cc (ap (same_key k) same ∙ same_key_same k, e)

module _ {R : Type 0} where
  pub none_there : (o : Option R) → is_some o ≡ false → o ≡ None
  none_there o e = grind arith

  pub set_here : (k : Key) (t : Table R) (o : Option R) → row_at (set_row t k o) k ≡ o
  unfolding set_row has_row
  set_here k t (Some r) = row_put k r t
  set_here k t None = none_there _ (has_row_without k k t ∙ rw (same_key_same k) refl)

  set_away : (k q : Key) → (q ≡ k → ⊥) → (t : Table R) (o : Option R) → row_at (set_row t q o) k ≡ row_at t k
  unfolding set_row
  set_away k q apart t o = grind (arith, row_put_away, row_drop_away)

  module _ (row : Key → Option R) (k : Key) where
    found_step : (q : Key) (t : Table R) (b c : Bool) → same_key k q ≡ b
        → cond c (row k) (row_at (set_row t q (row q)) k) ≡ cond (b || c) (row k) (row_at t k)
    found_step q t b c e = grind (arith, set_away, unequal, equal_keys, set_here)

    set_found : (ks : List Key) (t : Table R)
        → row_at (fold (λ t q. set_row t q (row q)) t ks) k ≡ cond (is_named ks k) (row k) (row_at t k)
    unfolding is_named
    set_found [] t = refl
    set_found (q ∷ ks) t =
        set_found ks (set_row t q (row q)) ∙ found_step q t (same_key k q) (list_any (same_key k) ks) refl

  set_rises : (k : Key) (t : Table R) (o : Option R) → Rises t → Rises (set_row t k o)
  unfolding set_row drop_at drop_where
  set_rises k t o e = grind (arith, sorted_of_up, up_put, up_of_sorted, up_filter)

  all_set_rise : (row : Key → Option R) (ks : List Key) (t : Table R) → Rises t
      → Rises (fold (λ t q. set_row t q (row q)) t ks)
  all_set_rise row [] t e = e
  all_set_rise row (q ∷ ks) t e = all_set_rise row ks (set_row t q (row q)) (set_rises q t (row q) e)

-- ---- asserts that go

module _ (joined : List Key) (k : Key) where
  abbrev stays : Key × AssertRow → Bool
  stays e = not (is_loser (Some e.1) && is_named joined e.0)

  left_step : (x : Key × AssertRow) (xs : Table AssertRow) (b c : Bool) → same_key k x.0 ≡ b → stays x ≡ c
      → not (is_loser (cond b (Some x.1) (row_at xs k)) && is_named joined k) ≡ true
      → (not (is_loser (row_at xs k) && is_named joined k) ≡ true → row_at (filter stays xs) k ≡ row_at xs k)
      → row_at (cond c (x ∷ filter stays xs) (filter stays xs)) k ≡ cond b (Some x.1) (row_at xs k)
  unfolding row_at
  left_step x xs b c e f g ih = grind (arith, equal_keys)

  assert_left : (t : Table AssertRow) → not (is_loser (row_at t k) && is_named joined k) ≡ true
      → row_at (filter stays t) k ≡ row_at t k
  unfolding row_at
  assert_left [] e = refl
  assert_left (x ∷ xs) e = left_step x xs (same_key k x.0) (stays x) refl refl e (assert_left xs)

-- ---- rows like themselves

module _ {R : Type 0} (same : R → R → Bool) (cut : R → R) (is : IsOfCut same cut) where
  pub itself : (a : Option R) → same_both same a a ≡ true
  itself a = grind arith

  pub as_before : (a b : Option R) → b ≡ a → same_both same a b ≡ true
  as_before a b e = ap (same_both same a) e ∙ itself a

-- ---- a Join/Prune

module _ (s : State) (ordered : IsOrdered s) (i holdtime : ℕ) (joined pruned : List Key) where
  abbrev after : Key → Option DownstreamRow
  after k = row_after s i holdtime joined pruned k

  abbrev rows : List Key
  rows = touched_keys s i joined pruned

  abbrev t : State
  t = keys_taken s i holdtime joined pruned

  to_me_ordered : IsOrdered t
  unfolding keys_taken asserts_after_joins
  to_me_ordered = record {
    interfaces = ordered.interfaces;
    neighbours = ordered.neighbours;
    queriers = ordered.queriers;
    group_records = ordered.group_records;
    source_records = ordered.source_records;
    group_repeats = ordered.group_repeats;
    source_repeats = ordered.source_repeats;
    sendings = ordered.sendings;
    downstream = all_set_rise after rows s.downstream ordered.downstream;
    asserts = sorted_of_up _ (up_filter _ s.asserts (up_of_sorted s.asserts ordered.asserts));
    join_timers = ordered.join_timers;
    override_timers = ordered.override_timers;
    sources = ordered.sources;
    registers = ordered.registers;
  }

  to_me_shared : IsShared s t
  unfolding keys_taken
  to_me_shared = grind arith

  module _ (k : Key) where
    row_then : row_at t.downstream k ≡ cond (is_named rows k) (after k) (row_at s.downstream k)
    unfolding keys_taken
    row_then = set_found after k rows s.downstream

    assert_then : not (is_loser (row_at s.asserts k) && is_named joined k) ≡ true
        → row_at t.asserts k ≡ row_at s.asserts k
    unfolding keys_taken asserts_after_joins
    assert_then e = assert_left joined k s.asserts e

    same_if : same_at same_downstream k s.downstream t.downstream ≡ true
        → not (is_loser (row_at s.asserts k) && is_named joined k) ≡ true → is_same_at s t k ≡ true
    unfolding is_same_at keys_taken
    same_if e f =
        grind (arith, all_six, itself, cut_group, of_group_records, cut_source, of_source_records, as_before, cut_assert, of_asserts, assert_then)

    joined_is_named : is_named joined k ≡ true → is_named rows k ≡ true
    unfolding is_named touched_keys
    joined_is_named e = grind (arith, list_any-append, or_left)

    no_loser : (b c : Bool) → c ≡ false → not (b && c) ≡ true
    no_loser b c e = grind arith

    -- a key that isn't among those that move has the same rows
    unmoved_same : is_named (moved_among s i holdtime joined pruned) k ≡ false → is_same_at s t k ≡ true
    unfolding is_named moved_among moves_end
    unmoved_same e = go (is_named rows k) (moves_end s i holdtime joined pruned k) refl refl
      where
        unnamed : is_named rows k ≡ false → is_named joined k ≡ false
        unnamed out = case (is_named joined k) refl
          where
            case : (b : Bool) → is_named joined k ≡ b → b ≡ false
            case true is = cc (joined_is_named is, out)
            case false is = refl

        go : (b c : Bool) → is_named rows k ≡ b → moves_end s i holdtime joined pruned k ≡ c → is_same_at s t k ≡ true
        go false c out was =
            same_if
            (as_before same_downstream cut_kind of_downstream (row_at s.downstream k) (row_at t.downstream k)
            (row_then ∙ ap (λ (b : Bool). cond b (after k) (row_at s.downstream k)) out))
            (no_loser (is_loser (row_at s.asserts k)) (is_named joined k) (unnamed out))
        go true true there was =
            same_if
            (ap (same_both same_downstream (row_at s.downstream k))
            (row_then ∙ ap (λ (b : Bool). cond b (after k) (row_at s.downstream k)) there)
            ∙ first_so (same_both same_downstream (row_at s.downstream k) (after k)) _ was)
            (second_so (same_both same_downstream (row_at s.downstream k) (after k)) _ was)
        go true false there was =
            let found : list_any (same_key k) (filter (λ q. not (moves_end s i holdtime joined pruned q)) rows) ≡ true =
            any_in_filter (λ q. not (moves_end s i holdtime joined pruned q)) (same_key k) rows
            ∙ (passing_named (λ q. not (moves_end s i holdtime joined pruned q)) k (ap not was) rows ∙ there) in
            cc (found, e)

    moved_touched : is_same_at s t k ≡ false → touching (moved_among s i holdtime joined pruned) k ≡ true
    moved_touched differs = grind (arith, named_touches, unmoved_same)

  pub touches_moved : AgreesBut (touching (moved_among s i holdtime joined pruned)) s t
  touches_moved = named_keys_cover (moved_among s i holdtime joined pruned) s t ordered to_me_ordered to_me_shared moved_touched

  -- a downstream row that is new stands under a key that moves
  pub new_rows_moved : (test : Key → Bool) → list_any test (keys_in t.downstream) ≡ true
      → (list_any test (keys_in s.downstream) || list_any test (moved_among s i holdtime joined pruned)) ≡ true
  unfolding has_row is_named
  new_rows_moved test e =
      one_of test _ (keys_in t.downstream) (λ k is there. go k is there (is_some (row_at s.downstream k)) refl) e
    where
      moved : (k : Key) → same_at same_downstream k s.downstream t.downstream ≡ false → (b : Bool)
          → is_named (moved_among s i holdtime joined pruned) k ≡ b → b ≡ true
      moved k differs true was = refl
      moved k differs false was = cc ((parts_at s t k (unmoved_same k was)).downstream, differs)

      go : (k : Key) → test k ≡ true → list_any (same_key k) (keys_in t.downstream) ≡ true → (b : Bool)
          → is_some (row_at s.downstream k) ≡ b
          → (list_any test (keys_in s.downstream) || list_any test (moved_among s i holdtime joined pruned)) ≡ true
      go k is there true was =
          or_left (list_any test (keys_in s.downstream)) _
          (passes_among test k is (keys_in s.downstream) (row_named k s.downstream ∙ was))
      go k is there false was =
          or_right (list_any test (keys_in s.downstream)) _
          (passes_among test k is (moved_among s i holdtime joined pruned)
          (moved k
          (lone same_downstream (row_at s.downstream k) (row_at t.downstream k) was
          (sym (row_named k t.downstream) ∙ there)) (is_named (moved_among s i holdtime joined pruned) k) refl))

pub join_prune_touches_moved : (s : State) → IsOrdered s → (i : ℕ) (m : JoinPrune)
    → AgreesBut (touching (moved_keys s i m)) s (to_me s i m)
unfolding to_me
join_prune_touches_moved s ordered i m = touches_moved s ordered i m.holdtime (joined_keys s i m) (pruned_keys i m)

pub join_prune_is_local : (s : State) → IsQuiet s → IsOrdered s → (i : IfaceId) (m : JoinPrune) (w : ℕ)
    → settled s (own_change s w (Accepted.JoinPruneToMe i m)) w
    ≡ own_settled (moved_keys s i.number m) s (own_change s w (Accepted.JoinPruneToMe i m)) w
unfolding change
join_prune_is_local s quiet ordered i m w = grind (arith, settling_is_own, join_prune_touches_moved)

pub join_prune_again : (s : State) → IsQuiet s → IsOrdered s → (i : IfaceId) (m : JoinPrune) (w : ℕ)
    → moved_keys s i.number m ≡ []
    → settled s (own_change s w (Accepted.JoinPruneToMe i m)) w ≡ write_all (to_me s i.number m) []
unfolding change
join_prune_again s quiet ordered i m w e = grind (arith, nothing_follows, join_prune_touches_moved)
