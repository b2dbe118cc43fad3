-- A winner that asserts again: only the expiry of its assert moves, so that nothing is touched.
use Rattle.std.{proofs.Common.{◌≡◌, ◌∙◌, ◌+◌, Bool, true, false, cond, List, [], ◌∷◌, Option, Some, option_map, refl, ap}, specs.List.cons_option}
use Rattle.pim_types.{specs.{declared.fact.{AssertMetric.AssertMetric, AssertRow.AssertRow, Key.Key}, Keys.same_key}, proofs.Keys.equal_keys}
use Rattle.pim_model.{specs.{Asserts.{assert_as_winner, is_inferior, loses, winner_time, wins_again}, Messages.Message, Rows.{same_assert, same_both, same_group_record, same_source_record, same_downstream, same_source, same_register}, Sets.is_better, State.State, Tables.{Table, change_row, changed_entry, row_at}}}
use Rattle.law_settled.{proofs.{RowLaws.{changed_key, row_change_away}, RisingKeys.{sorted_of_up, up_filter_map, up_of_sorted}}, specs.Ready.{IsOrdered, Rises}}
use Rattle.law_events.{specs.{Differing.{is_same_at, same_at}, Locality.{AgreesBut, touching}}, proofs.{Differing.{all_six, named_keys_cover}, JoinPrunes.{as_before, itself, unequal}, SameRows.{of_asserts, of_downstream, of_group_records, of_registers, of_source_records, of_sources}, SourceMacros.{cut_kept, cut_kind, cut_register, cut_source}, StarMacros.{cut_assert, cut_group}}}

module _ (k : Key) (r later : AssertRow) where
  abbrev moved : AssertRow → Option AssertRow
  moved old = Some later

  -- its row afterwards
  own_row : (t : Table AssertRow) → row_at t k ≡ Some r → row_at (change_row moved k t) k ≡ Some later
  unfolding row_at change_row changed_entry
  own_row [] there = cc
  own_row (x ∷ t) there = go (same_key k x.0) refl there (own_row t)
    where
      go : (b : Bool) → same_key k x.0 ≡ b → cond b (Some x.1) (row_at t k) ≡ Some r
          → (row_at t k ≡ Some r → row_at (change_row moved k t) k ≡ Some later)
          → row_at (cons_option (cond b (option_map (λ (row : AssertRow). let p : Key × AssertRow = (x.0, row) in p) (Some later)) (Some x)) (change_row moved k t)) k
          ≡ Some later
      go true is there rest = rw is refl
      go false is there rest = rw is (rest there)

  moved_rises : (t : Table AssertRow) → Rises t → Rises (change_row moved k t)
  unfolding change_row
  moved_rises t e = sorted_of_up _ (up_filter_map (changed_entry moved k) (changed_key moved k) t (up_of_sorted t e))

  moved_alike : (t : Table AssertRow) → row_at t k ≡ Some r → same_assert r later ≡ true → (q : Key)
      → same_at same_assert q t (change_row moved k t) ≡ true
  moved_alike t there alike q = go (same_key q k) refl
    where
      go : (b : Bool) → same_key q k ≡ b → same_at same_assert q t (change_row moved k t) ≡ true
      go true e =
          ap (λ (x : Key). same_both same_assert (row_at t x) (row_at (change_row moved k t) x)) (equal_keys q k e)
          ∙ ((λ j. same_both same_assert (there j) (own_row t there j)) ∙ alike)
      go false e =
          as_before same_assert cut_assert of_asserts (row_at t q) _ (row_change_away k q (unequal q k e) moved t)

module _ (s : State) (ordered : IsOrdered s) (k : Key) (r : AssertRow) (there : row_at s.asserts k ≡ Some r) where
  abbrev later : AssertRow
  later = record r { end = s.present + winner_time }

  never : (t : State) (q : Key) → is_same_at s t q ≡ true → is_same_at s t q ≡ false → touching [] q ≡ true
  never t q e f = cc (e, f)

  again_agrees : AgreesBut (touching []) s (wins_again s k r).0
  unfolding wins_again is_same_at
  again_agrees =
      let t : State = record s { asserts = change_row (moved k r later) k s.asserts } in
      named_keys_cover [] s t ordered
      (record {
        interfaces = ordered.interfaces;
        neighbours = ordered.neighbours;
        queriers = ordered.queriers;
        group_records = ordered.group_records;
        source_records = ordered.source_records;
        group_repeats = ordered.group_repeats;
        source_repeats = ordered.source_repeats;
        sendings = ordered.sendings;
        downstream = ordered.downstream;
        asserts = moved_rises k r later s.asserts ordered.asserts;
        join_timers = ordered.join_timers;
        override_timers = ordered.override_timers;
        sources = ordered.sources;
        registers = ordered.registers;
      })
      (record {
        settings = refl;
        configured = refl;
        routes = refl;
        ranges = refl;
        interfaces = refl;
        neighbours = refl;
      })
      (λ q. never t q (all_six _ _ _ _ _ _ (record {
        first = itself same_group_record cut_group of_group_records (row_at s.group_records q);
        second = itself same_source_record cut_source of_source_records (row_at s.source_records q);
        third = itself same_downstream cut_kind of_downstream (row_at s.downstream q);
        fourth = moved_alike k r later s.asserts there (itself same_assert cut_assert of_asserts (Some r)) q;
        fifth = itself same_source cut_kept of_sources (row_at s.sources q);
        sixth = itself same_register cut_register of_registers (row_at s.registers q);
      })))

  -- an Assert that isn't better than what it won with
  pub winner_agrees : (theirs : AssertMetric) → is_better theirs r.winner ≡ false
      → AgreesBut (touching []) s (assert_as_winner s k r theirs).0
  unfolding assert_as_winner
  winner_agrees theirs worse = go (is_better theirs r.winner) (is_inferior s k theirs) worse
    where
      go : (better inferior : Bool) → better ≡ false
          → (let after : State × List Message = cond better (loses s k theirs, []) (cond inferior (wins_again s k r) (s, [])) in
          AgreesBut (touching []) s after.0)
      go true inferior e = cc
      go false true e = again_agrees
      go false false e = λ q h. refl
