-- An Assert makes facts of no source but the one that it names.
use Rattle.std.{proofs.{Common.{◌≡◌, ℕ, Bool, true, false, cond, List, [], ◌∷◌, ◌&&◌, ◌++◌, ◌||◌, ◌==◌, not, Option, Some, None, refl, ◌∙◌}, lemmas.{Bool.{or_left, or_right}, List.Folds.list_any-append}}, specs.{List.list_any, Option.option_and_then, Prelude.if◌then◌else◌}}
use Rattle.pim_types.{specs.{declared.fact.{AssertMetric.AssertMetric, AssertRow.AssertRow, Key.Key, SourceRow.SourceRow}, Keys.{group_in, iface_in, is_star, names_source, source_in, source_key, star_key}}}
use Rattle.pim_wire.{specs.declared.assert.Assert.Assert as AssertMessage}
use Rattle.pim_model.{specs.{AssertMacros.is_infinite, Asserts.{assert_as_loser, assert_as_winner, assert_at, assert_forgotten, assert_in_no_info, assert_received, is_acceptable, is_challenge, is_from_winner, is_inferior, is_of_tree, is_tracking_at, loses, loses_first, theirs_of, wins, wins_again, with_spt_bit}, Desires.join_desired, Full.asserted_keys, Messages.Message, Sets.{is_better, is_winner}, State.State, Tables.{has_row, keys_in, put, row_at, set_row}, Unicast.is_rpf_interface, Upstream.fact_keys}}
use Rattle.law_settled.{proofs.{FewerFacts.{row_changed, row_without, table_fewer}, ListLaws.either, Parts.Asserts}}
use Rattle.pim_views.{specs.Covers.NewAreNamed}
use Rattle.pim_plan.{proofs.Growing.{FactsGrow, Grows, facts_grow, fewer_grow, grows_on, grows_so, one_more, stays}}

-- ---- one machine

module _ (p : Key → Bool) (k : Key)
    (its : not (is_star k) ≡ true → p (source_key 0 (group_in k) (source_in k)) ≡ true → p k ≡ true) where
  put_grows : (s : State) (r : AssertRow) → FactsGrow p (p k) s (record s { asserts = put s.asserts k r })
  unfolding set_row
  put_grows s r =
      facts_grow p (p k) s s.downstream (put s.asserts k r) s.join_timers s.override_timers s.sources
      (stays p (p k) (keys_in s.downstream)) (one_more p k (Some r) s.asserts) (stays p (p k) (keys_in s.join_timers))
      (stays p (p k) (keys_in s.override_timers)) (stays p (p k) (keys_in s.sources))

  wins_grow : (s : State) → FactsGrow p (p k) s (wins s k).0
  unfolding wins
  wins_grow s = put_grows s _

  loses_grow : (theirs : AssertMetric) (s : State) → FactsGrow p (p k) s (loses s k theirs)
  unfolding loses
  loses_grow theirs s = put_grows s _

  again_grows : (s : State) (r : AssertRow) → FactsGrow p (p k) s (wins_again s k r).0
  unfolding wins_again
  again_grows s r = fewer_grow p (p k) s _ (table_fewer Asserts s _ (row_changed _ k s.asserts))

  forgotten_grows : (s : State) → FactsGrow p (p k) s (assert_forgotten s k)
  unfolding assert_forgotten
  forgotten_grows s = fewer_grow p (p k) s _ (table_fewer Asserts s _ (row_without k s.asserts))

  -- the source fact is that of the machine's source
  spt_grows : (s : State) → not (is_star k) ≡ true → FactsGrow p (p k) s (with_spt_bit s (group_in k) (source_in k))
  unfolding with_spt_bit set_row
  spt_grows s isnt =
      let q : Key = source_key 0 (group_in k) (source_in k) in
      let row : SourceRow =
      record { keepalive = option_and_then (λ (r : SourceRow). r.keepalive) (row_at s.sources q); spt = true } in
      facts_grow p (p k) s s.downstream s.asserts s.join_timers s.override_timers (put s.sources q row)
      (stays p (p k) (keys_in s.downstream)) (stays p (p k) (keys_in s.asserts)) (stays p (p k) (keys_in s.join_timers))
      (stays p (p k) (keys_in s.override_timers))
      (λ e. either (list_any p (keys_in s.sources)) (p q) (or_left (list_any p (keys_in s.sources)) (p k))
      (λ f. or_right (list_any p (keys_in s.sources)) (p k) (its isnt f)) (one_more p q (Some row) s.sources e))

  module _ (theirs : AssertMetric) (s : State) where
    abbrev lost : State
    lost = loses s k theirs

    first_loss_grows : FactsGrow p (p k) s (loses_first s k theirs)
    unfolding loses_first
    first_loss_grows =
        go (is_star k) (is_rpf_interface s (source_in k) (iface_in k)) (join_desired s (group_in k) (source_in k)) refl
      where
        go : (star over joined : Bool) → is_star k ≡ star
            → FactsGrow p (p k) s (cond (not star && over && joined) (with_spt_bit (loses s k theirs) (group_in k) (source_in k)) (loses s k theirs))
        go false true true is =
            grows_on p (p k) (fact_keys s) (fact_keys lost) (fact_keys (with_spt_bit lost (group_in k) (source_in k)))
            (loses_grow theirs s) (spt_grows lost (cc (is)))
        go false true false is = loses_grow theirs s
        go false false joined is = loses_grow theirs s
        go true over joined is = loses_grow theirs s

    no_info_grows : FactsGrow p (p k) s (assert_in_no_info s k theirs).0
    unfolding assert_in_no_info
    no_info_grows =
        grows_so p (p k) s (is_challenge s k theirs) (wins s k) _ (wins_grow s)
        (grows_so p (p k) s (is_acceptable s k theirs && is_of_tree k theirs && is_tracking_at s k)
        (loses_first s k theirs, []) (s, []) first_loss_grows (stays p (p k) (fact_keys s)))

    winner_grows : (r : AssertRow) → FactsGrow p (p k) s (assert_as_winner s k r theirs).0
    unfolding assert_as_winner
    winner_grows r =
        grows_so p (p k) s (is_better theirs r.winner) (loses s k theirs, []) _ (loses_grow theirs s)
        (grows_so p (p k) s (is_inferior s k theirs) (wins_again s k r) (s, []) (again_grows s r)
        (stays p (p k) (fact_keys s)))

    loser_grows : (r : AssertRow) → FactsGrow p (p k) s (assert_as_loser s k r theirs)
    unfolding assert_as_loser
    loser_grows r =
        go (is_better theirs r.winner || (is_from_winner r theirs && is_acceptable s k theirs && is_of_tree k theirs))
        (is_from_winner r theirs && (is_inferior s k theirs || is_infinite theirs))
      where
        go : (follows forgets : Bool)
            → FactsGrow p (p k) s (cond follows (loses s k theirs) (cond forgets (assert_forgotten s k) s))
        go true forgets = loses_grow theirs s
        go false true = forgotten_grows s
        go false false = stays p (p k) (fact_keys s)

    at_grows : FactsGrow p (p k) s (assert_at s k theirs).0
    unfolding assert_at
    at_grows = go (row_at s.asserts k)
      where
        go : (row : Option AssertRow)
            → FactsGrow p (p k) s (elim row as (λ x. State × List Message) [
              | None ↦ assert_in_no_info s k theirs
              | Some r ↦ (if is_winner (Some r) then assert_as_winner s k r theirs else (assert_as_loser s k r theirs, []))
            ]).0
        go None = no_info_grows
        go (Some r) =
            grows_so p (p k) s (is_winner (Some r)) (assert_as_winner s k r theirs) (assert_as_loser s k r theirs, [])
            (winner_grows r) (loser_grows r)

-- ---- the message

one_key : (p : Key → Bool) (k : Key) (xs ys : List Key) → Grows p (p k) xs ys → Grows p (list_any p (k ∷ [])) xs ys
one_key p k xs ys grows e =
    either (list_any p xs) (p k) (or_left (list_any p xs) (p k || false))
    (λ f. or_right (list_any p xs) (p k || false) (or_left (p k) false f)) (grows e)

module _ (g src i : ℕ) (s : State) (a : AssertMessage) (theirs : AssertMetric) where
  abbrev its : Key → Bool
  its = names_source g src

  abbrev k : Key
  k = source_key i a.group.bits a.source.bits

  abbrev star : Key
  star = star_key i a.group.bits

  source_grows : (none : Bool)
      → Grows its (list_any its (if none then [] else k ∷ [])) (fact_keys s)
      (fact_keys (cond none (let c : State × List Message = (s, []) in c) (assert_at s k theirs)).0)
  unfolding names_source
  source_grows true = stays its false (fact_keys s)
  source_grows false =
      one_key its k (fact_keys s) (fact_keys (assert_at s k theirs).0) (at_grows its k (λ isnt f. f) theirs s)

  star_grows : (t : State) (rpt goes_on : Bool)
      → Grows its (list_any its (if rpt then star ∷ [] else [])) (fact_keys t)
      (fact_keys (cond (rpt && goes_on) (assert_at t star theirs) (let c : State × List Message = (t, []) in c)).0)
  star_grows t true true =
      one_key its star (fact_keys t) (fact_keys (assert_at t star theirs).0) (at_grows its star (λ isnt f. cc) theirs t)
  star_grows t true false = stays its (list_any its (star ∷ [])) (fact_keys t)
  star_grows t false goes_on = stays its false (fact_keys t)

pub asserted_named : (s : State) (i from : ℕ) (a : AssertMessage)
    → NewAreNamed (asserted_keys i a) s (assert_received s i from a).0
unfolding assert_received asserted_keys
asserted_named s i from a g src there =
    let its : Key → Bool = names_source g src in
    let k : Key = source_key i a.group.bits a.source.bits in
    let theirs : AssertMetric = theirs_of a from in
    let none : Bool = a.source.bits == 0 in
    let first : State × List Message = (if none then (s, []) else assert_at s k theirs) in
    let goes_on : Bool = none || (not (has_row s.asserts k) && not (has_row (first.0).asserts k)) in
    let before : Bool = list_any its (fact_keys s) in
    let sources : List Key = (if none then [] else k ∷ []) in
    let stars : List Key = (if a.rpt then star_key i a.group.bits ∷ [] else []) in
    let named : Bool = list_any its (sources ++ stars) in
    either (list_any its (fact_keys first.0)) (list_any its stars)
    (λ f. either before (list_any its sources) (or_left before named)
    (λ h. or_right before named (list_any-append its sources stars ∙ or_left (list_any its sources) (list_any its stars) h))
    (source_grows g src i s a theirs none f))
    (λ f. or_right before named
    (list_any-append its sources stars ∙ or_right (list_any its sources) (list_any its stars) f))
    (star_grows g src i s a theirs first.0 a.rpt goes_on there)
