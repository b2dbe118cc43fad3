-- An Assert leaves a fine state.
use Rattle.std.{proofs.{Common.{◌≡◌, ℕ, ◌≤◌, ◌+◌, ◌==◌, Bool, true, cond, List, [], is_some, Option, Some, None, refl, arith}, lemmas.Bool.or_right}, specs.Prelude.option_and_then}
use Rattle.pim_types.{specs.{declared.fact.{AssertMetric.AssertMetric, AssertRole.AssertRole, AssertRow.AssertRow, Key.Key, SourceRow.SourceRow}, Keys.{iface_in, group_in, source_in, source_key, star_key}}}
use Rattle.pim_wire.{specs.declared.assert.Assert.Assert as AssertMessage}
use Rattle.pim_model.{specs.{Asserts.{assert_as_loser, assert_as_winner, assert_at, assert_due, assert_forgotten, assert_in_no_info, assert_received, data_seen, loses, loses_first, my_metric_at, theirs_of, wins, wins_again, with_spt_bit}, Messages.Message, Sets.is_winner, State.State, Tables.{put, row_at}}}
use Rattle.law_settled.{proofs.{ListLaws.by_cond, Parts.{Asserts, Sources}, FineTables.good_row, LateEnds.late_by, Clearing.assert_forgotten_fine, FineStates.{Lateness, Runs, Good, IsFine, with_row, with_row_for}}}

module _ (m : ℕ) (late up : ℕ → Bool) (lateness : Lateness m late) where
  -- a state with messages
  abbrev pub Leaves : State × List Message → Type 0
  Leaves p = IsFine m late up p.0

  assert_late : (s : State) (d : ℕ) → IsFine m late up s → 1 ≤ d → late (s.present + d) ≡ true
  assert_late s d f h = late_by m late lateness s.present d f.present h

  -- a row that is put
  put_fine : (s : State) (k : Key) (r : AssertRow) → up (iface_in k) ≡ true → late r.end ≡ true → IsFine m late up s
      → IsFine m late up (record s { asserts = put s.asserts k r })
  put_fine s k r here h f =
      with_row m late up Asserts tt s f k r (h, here)

  wins_fine : (s : State) (k : Key) → up (iface_in k) ≡ true → IsFine m late up s → IsFine m late up (wins s k).0
  unfolding wins
  wins_fine s k here f =
      put_fine s k (record { role = AssertRole.Winner; winner = my_metric_at s k; end = s.present + 177000 }) here
      (assert_late s 177000 f (omega arith)) f

  wins_again_fine : (s : State) (k : Key) (r : AssertRow) → IsFine m late up s → IsFine m late up (wins_again s k r).0
  unfolding wins_again
  wins_again_fine s k r f =
      with_row_for m late up Asserts tt s f k (record r { end = s.present + 177000 })
      (λ old g. (assert_late s 177000 f (omega arith), g.1))

  loses_fine : (s : State) (k : Key) (theirs : AssertMetric) → up (iface_in k) ≡ true → IsFine m late up s
      → IsFine m late up (loses s k theirs)
  unfolding loses
  loses_fine s k theirs here f =
      put_fine s k (record { role = AssertRole.Loser; winner = theirs; end = s.present + 180000 }) here
      (assert_late s 180000 f (omega arith)) f

  kept_alive : (o : Option SourceRow) → ((r : SourceRow) → o ≡ Some r → Runs late r.keepalive)
      → Runs late (option_and_then (λ (r : SourceRow). r.keepalive) o)
  kept_alive o good = grind arith

  pub with_spt_fine : (s : State) (g src : ℕ) → IsFine m late up s → IsFine m late up (with_spt_bit s g src)
  unfolding with_spt_bit
  with_spt_fine s g src f =
      let k : Key = source_key 0 g src in
      let row : SourceRow =
      record { keepalive = option_and_then (λ (r : SourceRow). r.keepalive) (row_at s.sources k); spt = true } in
      with_row m late up Sources tt s f k row (
        kept_alive (row_at s.sources k) (λ r e. (good_row (Good late up Sources) s.sources k r (f.tables Sources) e).0),
        or_right (is_some row.keepalive) true refl,
      )

  loses_first_fine : (s : State) (k : Key) (theirs : AssertMetric) → up (iface_in k) ≡ true → IsFine m late up s
      → IsFine m late up (loses_first s k theirs)
  unfolding loses_first
  loses_first_fine s k theirs here f =
      by_cond (IsFine m late up) _ (with_spt_bit (loses s k theirs) (group_in k) (source_in k)) (loses s k theirs)
      (with_spt_fine (loses s k theirs) (group_in k) (source_in k) (loses_fine s k theirs here f))
      (loses_fine s k theirs here f)

  no_info_fine : (s : State) (k : Key) (theirs : AssertMetric) → up (iface_in k) ≡ true → IsFine m late up s
      → Leaves (assert_in_no_info s k theirs)
  unfolding assert_in_no_info
  no_info_fine s k theirs here f =
      by_cond Leaves _ (wins s k) _ (wins_fine s k here f)
      (by_cond Leaves _ (loses_first s k theirs, []) (s, []) (loses_first_fine s k theirs here f) f)

  as_winner_fine : (s : State) (k : Key) (r : AssertRow) (theirs : AssertMetric) → up (iface_in k) ≡ true
      → IsFine m late up s → Leaves (assert_as_winner s k r theirs)
  unfolding assert_as_winner
  as_winner_fine s k r theirs here f =
      by_cond Leaves _ (loses s k theirs, []) _ (loses_fine s k theirs here f)
      (by_cond Leaves _ (wins_again s k r) (s, []) (wins_again_fine s k r f) f)

  as_loser_fine : (s : State) (k : Key) (r : AssertRow) (theirs : AssertMetric) → up (iface_in k) ≡ true
      → IsFine m late up s → IsFine m late up (assert_as_loser s k r theirs)
  unfolding assert_as_loser
  as_loser_fine s k r theirs here f =
      by_cond (IsFine m late up) _ (loses s k theirs) _ (loses_fine s k theirs here f)
      (by_cond (IsFine m late up) _ (assert_forgotten s k) s (assert_forgotten_fine m late up s k f) f)

  assert_at_fine : (s : State) (k : Key) (theirs : AssertMetric) → up (iface_in k) ≡ true → IsFine m late up s
      → Leaves (assert_at s k theirs)
  unfolding assert_at
  assert_at_fine s k theirs here f = go (row_at s.asserts k)
    where
      go : (o : Option AssertRow) → Leaves (elim o [
        | None ↦ assert_in_no_info s k theirs
        | Some r ↦ cond (is_winner (Some r)) (assert_as_winner s k r theirs) (assert_as_loser s k r theirs, [])
      ])
      go None = no_info_fine s k theirs here f
      go (Some r) =
          by_cond Leaves (is_winner (Some r)) (assert_as_winner s k r theirs) (assert_as_loser s k r theirs, [])
          (as_winner_fine s k r theirs here f) (as_loser_fine s k r theirs here f)

  pub assert_fine : (s : State) (i from : ℕ) (a : AssertMessage) → up i ≡ true → IsFine m late up s
      → Leaves (assert_received s i from a)
  unfolding assert_received
  assert_fine s i from a here f =
      let k : Key = source_key i a.group.bits a.source.bits in
      let theirs : AssertMetric = theirs_of a from in
      let first : State × List Message = cond (a.source.bits == 0) (s, []) (assert_at s k theirs) in
      let g : Leaves first =
      by_cond Leaves (a.source.bits == 0) (s, []) (assert_at s k theirs) f (assert_at_fine s k theirs here f) in
      by_cond Leaves _ (assert_at first.0 (star_key i a.group.bits) theirs) (first.0, [])
      (assert_at_fine first.0 (star_key i a.group.bits) theirs here g) g

  pub data_seen_fine : (s : State) (k : Key) → up (iface_in k) ≡ true → IsFine m late up s → Leaves (data_seen s k)
  unfolding data_seen
  data_seen_fine s k here f = by_cond Leaves _ (wins s k) (s, []) (wins_fine s k here f) f

  pub assert_due_fine : (s : State) (k : Key) (r : AssertRow) → IsFine m late up s → Leaves (assert_due s k r)
  unfolding assert_due
  assert_due_fine s k r f =
      by_cond Leaves (is_winner (Some r)) (wins_again s k r) (assert_forgotten s k, []) (wins_again_fine s k r f)
      (assert_forgotten_fine m late up s k f)
