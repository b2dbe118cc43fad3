-- What an Assert touches where it stays with one machine: the key of that machine, and nothing where (*,G), to which it
-- goes on, stays as it is.
use Rattle.std.{proofs.Common.{◌≡◌, ◌&&◌, ◌||◌, ◌∷◌, Bool, List, [], None, Option, Some, ap, cond, false, is_some, refl, true}}
use Rattle.law_settled.{proofs.{ListLaws.by_cond, RowChanges.{changed_elsewhere, dropped_elsewhere, put_elsewhere}, RowLaws.row_put}}
use Rattle.pim_types.{specs.{declared.fact.{AssertMetric.AssertMetric, AssertRow.AssertRow, Key.Key}, Keys.{group_in, source_in, source_key}}}
use Rattle.pim_model.{specs.{AssertMacros.is_infinite, Asserts.{assert_as_loser, assert_as_winner, assert_at, assert_forgotten, assert_in_no_info, is_acceptable, is_challenge, is_from_winner, is_inferior, is_of_tree, is_tracking_at, loses, loses_first, wins, wins_again, with_spt_bit}, Messages.Message, Sets.{is_better, is_winner}, State.State, Tables.{has_row, put, row_at}}}
use Rattle.law_events.{specs.{Locality.{AgreesBut, touching}, Scopes.reads}, proofs.{Events.{agrees_if, wins_only}, Touches.{agrees_same, agrees_then, asserts_agree, sources_agree, touches_itself, unread_of}}}

module _ (k : Key) where
  abbrev Only : State → State → Type 0
  Only s t = AgreesBut (touching (k ∷ [])) s t

  elsewhere : (q : Key) → touching (k ∷ []) q ≡ false → reads q k ≡ false
  elsewhere q e = unread_of (k ∷ []) k q (touches_itself k) e

  loses_only : (s : State) (theirs : AssertMetric) → Only s (loses s k theirs)
  unfolding loses
  loses_only s theirs =
      asserts_agree (touching (k ∷ [])) s _ (λ q e. put_elsewhere (reads q) k (elsewhere q e) s.asserts _)

  again_only : (s : State) (r : AssertRow) → Only s (wins_again s k r).0
  unfolding wins_again
  again_only s r =
      asserts_agree (touching (k ∷ [])) s _ (λ q e. changed_elsewhere (reads q) _ k (elsewhere q e) s.asserts)

  forgotten_only : (s : State) → Only s (assert_forgotten s k)
  unfolding assert_forgotten
  forgotten_only s =
      asserts_agree (touching (k ∷ [])) s _ (λ q e. dropped_elsewhere (reads q) k (elsewhere q e) s.asserts)

  source_unread : (q : Key) → touching (k ∷ []) q ≡ false → reads q (source_key 0 (group_in k) (source_in k)) ≡ false
  unfolding reads
  source_unread q e = elsewhere q e

  bit_only : (s : State) → Only s (with_spt_bit s (group_in k) (source_in k))
  unfolding with_spt_bit
  bit_only s =
      sources_agree (touching (k ∷ [])) s _ (λ q e. put_elsewhere (reads q) (source_key 0 (group_in k) (source_in k))
      (source_unread q e) s.sources _)

  first_loss_only : (s : State) (theirs : AssertMetric) → Only s (loses_first s k theirs)
  unfolding loses_first
  first_loss_only s theirs =
      by_cond (Only s) _ (with_spt_bit (loses s k theirs) (group_in k) (source_in k)) (loses s k theirs)
      (agrees_then (touching (k ∷ [])) s (loses s k theirs) _ (loses_only s theirs) (bit_only (loses s k theirs)))
      (loses_only s theirs)

  no_info_only : (s : State) (theirs : AssertMetric) → Only s (assert_in_no_info s k theirs).0
  unfolding assert_in_no_info
  no_info_only s theirs =
      agrees_if (touching (k ∷ [])) s (is_challenge s k theirs) (wins s k) _ (wins_only k s)
      (agrees_if (touching (k ∷ [])) s (is_acceptable s k theirs && is_of_tree k theirs && is_tracking_at s k)
      (loses_first s k theirs, []) (s, []) (first_loss_only s theirs) (agrees_same (touching (k ∷ [])) s))

  winner_only : (s : State) (r : AssertRow) (theirs : AssertMetric) → Only s (assert_as_winner s k r theirs).0
  unfolding assert_as_winner
  winner_only s r theirs =
      agrees_if (touching (k ∷ [])) s (is_better theirs r.winner) (loses s k theirs, []) _ (loses_only s theirs)
      (agrees_if (touching (k ∷ [])) s (is_inferior s k theirs) (wins_again s k r) (s, []) (again_only s r)
      (agrees_same (touching (k ∷ [])) s))

  loser_only : (s : State) (r : AssertRow) (theirs : AssertMetric) → Only s (assert_as_loser s k r theirs)
  unfolding assert_as_loser
  loser_only s r theirs =
      by_cond (Only s)
      (is_better theirs r.winner || (is_from_winner r theirs && is_acceptable s k theirs && is_of_tree k theirs))
      (loses s k theirs) _ (loses_only s theirs)
      (by_cond (Only s) (is_from_winner r theirs && (is_inferior s k theirs || is_infinite theirs)) (assert_forgotten s k) s
      (forgotten_only s) (agrees_same (touching (k ∷ [])) s))

  pub machine_only : (s : State) (theirs : AssertMetric) → Only s (assert_at s k theirs).0
  unfolding assert_at
  machine_only s theirs = go (row_at s.asserts k)
    where
      go : (o : Option AssertRow) → (let after : State × List Message = elim o [
        | None ↦ assert_in_no_info s k theirs
        | Some r ↦ cond (is_winner (Some r)) (assert_as_winner s k r theirs) (assert_as_loser s k r theirs, [])
      ] in Only s after.0)
      go None = no_info_only s theirs
      go (Some r) =
          agrees_if (touching (k ∷ [])) s (is_winner (Some r)) (assert_as_winner s k r theirs)
          (assert_as_loser s k r theirs, []) (winner_only s r theirs) (loser_only s r theirs)

  -- ---- a machine that was in NoInfo, and still is

  made_row : (s : State) (r : AssertRow) → has_row (put s.asserts k r) k ≡ true
  unfolding has_row
  made_row s r = ap (λ (o : Option AssertRow). is_some o) (row_put k r s.asserts)

  lost_row : (s : State) (theirs : AssertMetric) → has_row (loses s k theirs).asserts k ≡ true
  unfolding loses
  lost_row s theirs = made_row s _

  won_row : (s : State) → has_row (wins s k).0.asserts k ≡ true
  unfolding wins
  won_row s = made_row s _

  first_lost_row : (s : State) (theirs : AssertMetric) → has_row (loses_first s k theirs).asserts k ≡ true
  unfolding loses_first with_spt_bit
  first_lost_row s theirs =
      by_cond (λ (t : State). has_row t.asserts k ≡ true) _ (with_spt_bit (loses s k theirs) (group_in k) (source_in k)) (loses s k theirs)
      (lost_row s theirs) (lost_row s theirs)

  no_info_stays : (s : State) (theirs : AssertMetric) → has_row (assert_in_no_info s k theirs).0.asserts k ≡ false
      → (assert_in_no_info s k theirs).0 ≡ s
  unfolding assert_in_no_info
  no_info_stays s theirs = go (is_challenge s k theirs) (is_acceptable s k theirs && is_of_tree k theirs && is_tracking_at s k)
    where
      go : (b c : Bool)
          → (let after : State × List Message = cond b (wins s k) (cond c (loses_first s k theirs, []) (s, [])) in
          has_row after.0.asserts k ≡ false → after.0 ≡ s)
      go true c none = cc (won_row s, none)
      go false true none = cc (first_lost_row s theirs, none)
      go false false none = refl

  pub still_no_info : (s : State) (theirs : AssertMetric) → has_row s.asserts k ≡ false
      → has_row (assert_at s k theirs).0.asserts k ≡ false → (assert_at s k theirs).0 ≡ s
  unfolding assert_at has_row
  still_no_info s theirs was = go (row_at s.asserts k) was
    where
      go : (o : Option AssertRow) → is_some o ≡ false → (let after : State × List Message = elim o [
        | None ↦ assert_in_no_info s k theirs
        | Some r ↦ cond (is_winner (Some r)) (assert_as_winner s k r theirs) (assert_as_loser s k r theirs, [])
      ] in is_some (row_at after.0.asserts k) ≡ false → after.0 ≡ s)
      go None e none = no_info_stays s theirs none
      go (Some r) e none = cc
