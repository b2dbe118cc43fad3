-- What is heard again touches nothing: a packet of data, or a Register, that moves the expiry of a keepalive timer, and
-- an Assert of the known winner, be it the router.
use Rattle.std.{proofs.{Common.{◌≡◌, ◌==◌, ◌&&◌, ◌||◌, ◌++◌, ◌∙◌, ◌∷◌, Bool, List, [], None, Option, Some, ap, append-nil, cond, filter, false, is_some, not, refl, subst, sym, true, ℕ}, lemmas.{Bool.or_left, List.Folds.list_any-append}}, specs.{Cmp.{first_so, second_so}, List.list_any, Option.option_map_or, Prelude.if◌then◌else◌}}
use Rattle.pim_ip.{specs.Ipv4.Packet}
use Rattle.law_events.{specs.{Locality.{AgreesBut, touching}, Rest.IsAtRest}, proofs.{Forwards.on_its_tree, KeptAlive.{register_is_settled, row_passes}, EndsAgain.{keepalive_again, loses_again}, Events.assert_touches, SameRows.of_asserts, Touches.widened}}
use Rattle.law_settled.{proofs.ListLaws.either}
use Rattle.pim_types.{specs.{declared.fact.{AssertMetric.AssertMetric, AssertRole.AssertRole, AssertRow.AssertRow, Key.Key, SourceRow.SourceRow}, Keys.{iface_in, is_star, names_source, source_key, star_key}}}
use Rattle.pim_wire.{specs.declared.assert.Assert.Assert as AssertMessage}
use Rattle.pim_model.{specs.{AssertMacros.is_infinite, Asserts.{assert_as_loser, assert_as_winner, assert_at, assert_forgotten, assert_in_no_info, assert_received, could_assert_at, data_seen, is_from_winner, is_tracking_at, loses, my_metric_at, theirs_of, wins, with_spt_bit}, Cache.{answers, may_register, opens_tunnel, sets_spt}, Clearing.{assert_must_go, is_rpf_at}, Desires.join_desired, Forwarding.{Forwarded, forwarded, is_spt_reached, list_chosen, register_at_rp, register_received, source_here, source_joined, spt_updated, stray, watched, when}, Full.asserted_keys, Messages.Message, Neighbours.is_neighbour, Registers.{could_register, has_other_rp, is_dr_of_path, is_spt_wanted, with_keepalive}, Rows.same_metric, Sets.{Set, inherited_olist, inherited_olist_rpt, is_better, is_kept_alive, is_loser, is_winner, spt_bit}, State.State, Tables.{has_row, keys_in, row_at}, Unicast.{is_connected, is_rp, is_rpf_interface, is_rpf_interface_rp, route}, Upstream.fact_keys}}
use Rattle.pim_views.{specs.{Covers.{Concerns, NewAreNamed}, Openings.has_facts}}
use Rattle.pim_plan.{specs.Repeats.{asserted_key, asserts_anew, is_assert_known, is_direct, is_lost_to_metric, is_unmoved, is_watched, is_won_against, moved_asserts, moves_at_most_the_keepalive_end}, proofs.{Asserted.asserted_named, Growing.{any_left, any_right, row_among}, IgmpFacts.star_names_none, Machines.{machine_only, still_no_info}, Packets.keepalive_grows, WonAgain.winner_agrees}}

-- ---- what stays

pub nothing_concerned : (s : State) → Concerns [] s s
nothing_concerned s = record { agrees = λ k e. refl; named = λ g src there. or_left (has_facts s g src) false there }

either_concerned : (s : State) (b : Bool) (t u : Forwarded) → (b ≡ true → Concerns [] s t.state)
    → (b ≡ false → Concerns [] s u.state) → Concerns [] s (cond b t u).state
either_concerned s true t u f g = f refl
either_concerned s false t u f g = g refl

pub so_false : (b : Bool) → not b ≡ true → b ≡ false
so_false false e = refl
so_false true e = cc

module _ (s : State) (p : Key → Bool) (k : Key) (named : p k ≡ true) where
  assert_is_fact : has_row s.asserts k ≡ true → list_any p (fact_keys s) ≡ true
  unfolding fact_keys
  assert_is_fact there =
      any_left p _ (keys_in s.registers) (any_left p _ (keys_in s.sources) (any_left p _ (keys_in s.override_timers)
      (any_left p _ (keys_in s.join_timers)
      (any_right p _ (keys_in s.asserts) (row_among p k s.asserts there named)))))

  source_is_fact : has_row s.sources k ≡ true → list_any p (fact_keys s) ≡ true
  unfolding fact_keys
  source_is_fact there =
      any_left p _ (keys_in s.registers) (any_right p _ (keys_in s.sources) (row_among p k s.sources there named))

-- ---- a keepalive timer that runs

module _ (s : State) (rest : IsAtRest s) (g src : ℕ) where
  alive_has_row : is_kept_alive s g src ≡ true → has_row s.sources (source_key 0 g src) ≡ true
  unfolding is_kept_alive has_row
  alive_has_row kept = go (row_at s.sources (source_key 0 g src)) kept
    where
      go : (o : Option SourceRow) → option_map_or (λ (r : SourceRow). is_some r.keepalive) o false ≡ true
          → is_some o ≡ true
      go None e = e
      go (Some r) e = refl

  -- a keepalive timer that runs is set again
  keepalive_concerned : is_kept_alive s g src ≡ true → Concerns [] s (with_keepalive s g src)
  unfolding names_source
  keepalive_concerned kept = record {
    agrees = keepalive_again s rest.settled.ordered g src kept;
    named = λ g' src' there.
        let p : Key → Bool = names_source g' src' in
        or_left (has_facts s g' src') false
        (either (has_facts s g' src') (has_facts s g' src') (λ h. h) (λ h. h)
        (keepalive_grows p (has_facts s g' src') g src
        (λ i e. source_is_fact s p (source_key 0 g src) e (alive_has_row kept)) (λ i e. cc (e, star_names_none g' src' i g)) s
        there));
  }

  when_concerned : (b : Bool) → (b ≡ true → is_kept_alive s g src ≡ true)
      → Concerns [] s (when b (λ t. with_keepalive t g src) s)
  when_concerned true kept = keepalive_concerned (kept refl)
  when_concerned false kept = nothing_concerned s

  -- ---- a Register

  pub register_concerned : (packet : Packet) (is_null : Bool) → is_kept_alive s g src ≡ true
      → Concerns [] s (register_received s packet g src is_null).state
  unfolding register_received register_at_rp
  register_concerned packet is_null kept =
      either_concerned s (is_rp s g packet.destination) _ _
      (λ e. when_concerned (spt_bit s g src || is_spt_wanted s) (λ f. kept)) (λ e. nothing_concerned s)

  -- ---- a packet of data

  module _ (iif : ℕ) where
    -- by the shortest path tree
    module _ (kept : is_kept_alive s g src ≡ true) (reached : spt_bit s g src ≡ true) where
      shut : opens_tunnel (answers s g src) iif ≡ false
      unfolding answers could_register may_register
      shut =
          go (is_rpf_interface s src iif) (is_connected s src) (option_map_or (is_dr_of_path s) (route s src) false)
          (is_kept_alive s g src) (has_other_rp s g) (has_row s.registers (source_key 0 g src)) kept
          (register_is_settled g src s rest (alive_has_row kept))
        where
          go : (t c a k b r : Bool) → k ≡ true → ((a && k) && b) ≡ r → (((t && c) && (a && b)) && not r) ≡ false
          go false c a k b r is e = refl
          go true false a k b r is e = refl
          go true true false k b r is e = refl
          go true true true k false r is e = refl
          go true true true true true true is e = refl
          go true true true true true false is e = cc
          go true true true false true r is e = cc

      unset : sets_spt (answers s g src) iif ≡ false
      unfolding answers
      unset = go _ (spt_bit s g src) reached
        where
          go : (a b : Bool) → b ≡ true → (a && not b) ≡ false
          go true true e = refl
          go false b e = refl
          go true false e = cc

      direct_concerned : is_rpf_interface s src iif ≡ true → Concerns [] s (forwarded s g src iif).state
      direct_concerned on =
          subst (λ (f : Forwarded). Concerns [] s f.state)
          (sym (on_its_tree g src iif s rest (alive_has_row kept) shut unset (rw (on, reached) refl)))
          (by_timer _)
        where
          by_timer : (b : Bool) → Concerns [] s (cond b (with_keepalive s g src) s)
          by_timer true = keepalive_concerned kept
          by_timer false = nothing_concerned s

    so_chosen : (b c x y : Bool) → b ≡ c → (if b then x else y) ≡ true → (if c then x else y) ≡ true
    so_chosen b c x y is e = subst (λ (d : Bool). (if d then x else y) ≡ true) is e

    -- by none: neither kept alive, nor registered, nor with SPTbit set anew
    module _ (apart : is_direct s g src iif ≡ false) where
      off_here : (r c d : Bool) → (r && (c || d)) ≡ false → (c && r) ≡ false
      off_here true true d e = cc
      off_here true false d e = refl
      off_here false true d e = refl
      off_here false false d e = refl

      off_tree : (r c d x : Bool) → (r && (c || d)) ≡ false → ((r && d) && x) ≡ false
      off_tree true true d x e = cc
      off_tree true false true x e = cc
      off_tree true false false x e = refl
      off_tree false c d x e = refl

      here_stays : source_here s g src iif ≡ s
      unfolding source_here is_direct
      here_stays =
          rw (off_here (is_rpf_interface s src iif) (is_connected s src) (join_desired s g src) apart) refl

      joined_stays : source_joined s g src iif ≡ s
      unfolding source_joined is_direct
      joined_stays =
          ap (λ (b : Bool). when b (λ t. with_keepalive t g src) s)
          (off_tree (is_rpf_interface s src iif) (is_connected s src) (join_desired s g src) _ apart)

      reached_stays : spt_updated s g src iif ≡ s
      unfolding spt_updated is_spt_reached is_direct
      reached_stays =
          ap (λ (b : Bool). when b (λ t. with_spt_bit t g src) s)
          (off_tree (is_rpf_interface s src iif) (is_connected s src) (join_desired s g src) _ apart)

      seen_stays : (k : Key) → has_row s.asserts k ≡ true → (data_seen s k).0 ≡ s
      unfolding data_seen
      seen_stays k there = go (could_assert_at s k) (has_row s.asserts k) there
        where
          go : (b c : Bool) → c ≡ true → (cond (b && not c) (wins s k) (let n : State × List Message = (s, []) in n)).0 ≡ s
          go true true e = refl
          go true false e = cc
          go false c e = refl

      stray_stays : asserts_anew s g src iif ≡ false → (stray s g src iif).state ≡ s
      unfolding stray asserts_anew
      stray_stays none = go (spt_bit s g src) none
        where
          so_true : (c : Bool) → not c ≡ false → c ≡ true
          so_true true e = refl
          so_true false e = cc

          by_list : (k : Key) (b : Bool) → (b && not (has_row s.asserts k)) ≡ false
              → (cond b (data_seen s k) (let n : State × List Message = (s, []) in n)).0 ≡ s
          by_list k true e = seen_stays k (so_true (has_row s.asserts k) e)
          by_list k false e = refl

          go : (b : Bool)
              → ((if b then inherited_olist s g src else inherited_olist_rpt s g src) iif
              && not (has_row s.asserts (if b then source_key iif g src else star_key iif g))) ≡ false
              → (let list : Set = cond b (inherited_olist s g src) (inherited_olist_rpt s g src) in
              let after : State × List Message =
              cond (list iif) (data_seen s (cond b (source_key iif g src) (star_key iif g))) (s, []) in after.0 ≡ s)
          go true e = by_list (source_key iif g src) (inherited_olist s g src iif) e
          go false e = by_list (star_key iif g) (inherited_olist_rpt s g src iif) e

      chosen_concerned : (if is_rpf_interface_rp s g iif && not (spt_bit s g src)
          then is_kept_alive s g src || not (is_watched s g src) else not (asserts_anew s g src iif)) ≡ true
          → Concerns [] s (list_chosen s g src iif).state
      unfolding list_chosen watched is_watched
      chosen_concerned moves =
          let shared : Bool = is_rpf_interface_rp s g iif && not (spt_bit s g src) in
          let unwatched : Bool = is_kept_alive s g src || not (is_watched s g src) in
          let silent : Bool = not (asserts_anew s g src iif) in
          either_concerned s (is_rpf_interface s src iif && spt_bit s g src) _ _ (λ e. nothing_concerned s)
          (λ e. either_concerned s shared _ (stray s g src iif)
          (λ f. when_concerned (is_watched s g src)
          (kept_so (is_kept_alive s g src) (is_watched s g src) (so_chosen shared true unwatched silent f moves)))
          (λ f. subst (λ (t : State). Concerns [] s t)
          (sym (stray_stays (so_false (asserts_anew s g src iif) (so_chosen shared false unwatched silent f moves))))
          (nothing_concerned s)))
        where
          kept_so : (a w : Bool) → (a || not w) ≡ true → w ≡ true → a ≡ true
          kept_so true w e f = refl
          kept_so false true e f = e
          kept_so false false e f = cc

    pub packet_concerned : moves_at_most_the_keepalive_end s g src iif ≡ true → Concerns [] s (forwarded s g src iif).state
    unfolding moves_at_most_the_keepalive_end is_direct forwarded
    packet_concerned moves = go (is_direct s g src iif) refl moves
      where
        on_of : (r x : Bool) → (r && x) ≡ true → r ≡ true
        on_of true x e = refl
        on_of false x e = e

        go : (b : Bool) → is_direct s g src iif ≡ b
            → (if b then is_kept_alive s g src && spt_bit s g src
            else (if is_rpf_interface_rp s g iif && not (spt_bit s g src)
            then is_kept_alive s g src || not (is_watched s g src) else not (asserts_anew s g src iif))) ≡ true
            → Concerns [] s (forwarded s g src iif).state
        go true direct e =
            direct_concerned (first_so (is_kept_alive s g src) (spt_bit s g src) e)
            (second_so (is_kept_alive s g src) (spt_bit s g src) e)
            (on_of (is_rpf_interface s src iif) _ direct)
        go false apart e =
            let same : spt_updated (source_joined (source_here s g src iif) g src iif) g src iif ≡ s =
            ap (λ (t : State). spt_updated (source_joined t g src iif) g src iif) (here_stays apart)
            ∙ ap (λ (t : State). spt_updated t g src iif) (joined_stays apart) ∙ reached_stays apart in
            subst (λ (t : State). Concerns [] s (list_chosen t g src iif).state) (sym same) (chosen_concerned apart e)

-- ---- an Assert of the known winner, or one that the router wins as before

module _ (s : State) (rest : IsAtRest s) (k : Key) (theirs : AssertMetric) where
  lost_no_winner : (r : AssertRow) → is_loser (Some r) ≡ true → is_winner (Some r) ≡ false
  lost_no_winner r lost = go r.role lost
    where
      go : (role : AssertRole) → (elim role [ AssertRole.Loser ↦ true | AssertRole.Winner ↦ false ]) ≡ true
          → (elim role [ AssertRole.Winner ↦ true | AssertRole.Loser ↦ false ]) ≡ false
      go AssertRole.Loser e = refl
      go AssertRole.Winner e = cc

  third : (a b c d : Bool) → (a || b || c || d) ≡ false → c ≡ false
  third false false false d e = refl
  third false false true d e = cc
  third false true c d e = cc
  third true b c d e = cc

  module _ (r : AssertRow) (there : row_at s.asserts k ≡ Some r) (lost : is_loser (Some r) ≡ true)
      (same : same_metric r.winner theirs ≡ true) (finite : is_infinite theirs ≡ false) where
    winner_is : r.winner ≡ theirs
    winner_is = go r.winner same
      where
        go : (m : AssertMetric) → same_metric m theirs ≡ true → m ≡ theirs
        go m e =
            ap (λ (x : AssertRow). x.winner)
            (of_asserts.alike (record { role = AssertRole.Loser; winner = m; end = 0 })
            (record { role = AssertRole.Loser; winner = theirs; end = 0 }) e)

    -- at rest the router isn't better
    not_better : is_better (my_metric_at s k) theirs ≡ false
    unfolding assert_must_go
    not_better =
        ap (is_better (my_metric_at s k)) (sym winner_is)
        ∙ third (not (is_neighbour s (iface_in k) r.winner.address.bits)) (not (is_tracking_at s k))
        (is_better (my_metric_at s k) r.winner) (is_rpf_at s k && not (is_rpf_at s k))
        (so_false _ (rw (lost_no_winner r lost) at stays))
      where
        stays : not (assert_must_go s s (k, r)) ≡ true
        stays = row_passes (λ e. not (assert_must_go s s e)) k r s.asserts rest.quiet.clear.asserts there

    loser_agrees : AgreesBut (touching []) s (assert_as_loser s k r theirs)
    unfolding assert_as_loser
    loser_agrees =
        go _ _ (forgets_not (is_from_winner r theirs) (is_better (my_metric_at s k) theirs)
        (not (is_infinite (my_metric_at s k))) (is_infinite theirs) not_better finite)
      where
        forgets_not : (f b m i : Bool) → b ≡ false → i ≡ false → (f && (b && m || i)) ≡ false
        forgets_not true false m false e h = refl
        forgets_not true true m i e h = cc
        forgets_not true false m true e h = cc
        forgets_not false b m i e h = refl

        go : (follows forgets : Bool) → forgets ≡ false
            → AgreesBut (touching []) s (cond follows (loses s k theirs) (cond forgets (assert_forgotten s k) s))
        go true forgets e = loses_again s rest.settled.ordered k r theirs there lost same
        go false true e = cc
        go false false e = λ q h. refl

  -- the machine is a loser that hears its winner again, or stays the winner
  by_role : (r : AssertRow) → row_at s.asserts k ≡ Some r → is_unmoved (Some r) theirs ≡ true
      → AgreesBut (touching []) s (cond (is_winner (Some r)) (assert_as_winner s k r theirs)
      (let n : State × List Message = (assert_as_loser s k r theirs, []) in n)).0
  unfolding is_unmoved is_lost_to_metric is_won_against
  by_role r there e =
      either ((is_loser (Some r) && same_metric r.winner theirs) && not (is_infinite theirs))
      (is_winner (Some r) && not (is_better theirs r.winner))
      (λ f. let known : (is_loser (Some r) && same_metric r.winner theirs) ≡ true = first_so _ (not (is_infinite theirs)) f in
      let lost : is_loser (Some r) ≡ true = first_so (is_loser (Some r)) (same_metric r.winner theirs) known in
      subst (λ (b : Bool). AgreesBut (touching []) s
      (cond b (assert_as_winner s k r theirs) (assert_as_loser s k r theirs, [])).0) (sym (lost_no_winner r lost))
      (loser_agrees r there lost (second_so (is_loser (Some r)) (same_metric r.winner theirs) known)
      (so_false (is_infinite theirs) (second_so (is_loser (Some r) && same_metric r.winner theirs) (not (is_infinite theirs)) f))))
      (λ f. subst (λ (b : Bool). AgreesBut (touching []) s
      (cond b (assert_as_winner s k r theirs) (assert_as_loser s k r theirs, [])).0)
      (sym (first_so (is_winner (Some r)) (not (is_better theirs r.winner)) f))
      (winner_agrees s rest.settled.ordered k r there theirs
      (so_false (is_better theirs r.winner) (second_so (is_winner (Some r)) (not (is_better theirs r.winner)) f)))) e

  at_agrees : is_unmoved (row_at s.asserts k) theirs ≡ true → AgreesBut (touching []) s (assert_at s k theirs).0
  unfolding assert_at is_unmoved is_lost_to_metric is_won_against
  at_agrees known = go (row_at s.asserts k) refl known
    where
      go : (row : Option AssertRow) → row_at s.asserts k ≡ row → is_unmoved row theirs ≡ true
          → AgreesBut (touching []) s (elim row as (λ x. State × List Message) [
            | None ↦ assert_in_no_info s k theirs
            | Some r ↦ (if is_winner (Some r) then assert_as_winner s k r theirs else (assert_as_loser s k r theirs, []))
          ]).0
      go None there e = cc
      go (Some r) there e = by_role r there e

  -- such a machine has an assert
  unmoved_has_row : is_unmoved (row_at s.asserts k) theirs ≡ true → has_row s.asserts k ≡ true
  unfolding is_unmoved is_lost_to_metric is_won_against has_row
  unmoved_has_row known = go (row_at s.asserts k) known
    where
      go : (row : Option AssertRow)
          → ((is_loser row && option_map_or (λ (r : AssertRow). same_metric r.winner theirs) row false) && not (is_infinite theirs)
          || option_map_or (λ (r : AssertRow). is_winner (Some r) && not (is_better theirs r.winner)) row false) ≡ true
          → is_some row ≡ true
      go None e = cc
      go (Some r) e = refl

module _ (s : State) (rest : IsAtRest s) (i from : ℕ) (a : AssertMessage) where
  abbrev metric : AssertMetric
  metric = theirs_of a from

  abbrev key : Key
  key = source_key i a.group.bits a.source.bits

  abbrev star : Key
  star = star_key i a.group.bits

  received_agrees : is_unmoved (row_at s.asserts (asserted_key i a)) metric ≡ true
      → AgreesBut (touching []) s (assert_received s i from a).0
  unfolding assert_received
  received_agrees known = go (a.source.bits == 0) known
    where
      of_star : (b : Bool) → is_unmoved (row_at s.asserts star) metric ≡ true
          → AgreesBut (touching []) s (cond b (assert_at s star metric) (let n : State × List Message = (s, []) in n)).0
      of_star true e = at_agrees s rest star metric e
      of_star false e = λ q h. refl

      of_source : (t : State × List Message) (rpt there again : Bool) → there ≡ true → AgreesBut (touching []) s t.0
          → AgreesBut (touching []) s (cond (rpt && (not there && not again)) (assert_at t.0 star metric)
          (let n : State × List Message = (t.0, []) in n)).0
      of_source t rpt false again e agrees = cc
      of_source t true true again e agrees = agrees
      of_source t false true again e agrees = agrees

      go : (none : Bool) → is_unmoved (row_at s.asserts (cond none star key)) metric ≡ true
          → (let first : State × List Message = cond none (s, []) (assert_at s key metric) in
          let goes_on : Bool = a.rpt && (none || (not (has_row s.asserts key) && not (has_row (first.0).asserts key))) in
          let second : State × List Message = cond goes_on (assert_at first.0 star metric) (first.0, []) in
          AgreesBut (touching []) s second.0)
      go true e = of_star (a.rpt && true) e
      go false e =
          of_source (assert_at s key metric) a.rpt (has_row s.asserts key) _ (unmoved_has_row s rest key metric e)
          (at_agrees s rest key metric e)

  pub assert_concerned : is_assert_known s i from a ≡ true → Concerns [] s (assert_received s i from a).0
  unfolding is_assert_known asserted_keys
  assert_concerned known = record {
    agrees = received_agrees known;
    named = λ g src there.
        or_left (has_facts s g src) false
        (either (has_facts s g src) (list_any (names_source g src) (asserted_keys i a)) (λ h. h)
        (λ named. was_there g src (a.source.bits == 0) known named) (asserted_named s i from a g src there));
  }
    where
      star_none : (g src : ℕ) (b : Bool) → list_any (names_source g src) (if b then star ∷ [] else []) ≡ false
      star_none g src true = rw (star_names_none g src i a.group.bits) refl
      star_none g src false = refl

      -- the source that it names has the assert
      was_there : (g src : ℕ) (none : Bool) → is_unmoved (row_at s.asserts (cond none star key)) metric ≡ true
          → list_any (names_source g src) ((if none then [] else key ∷ []) ++ (if a.rpt then star ∷ [] else [])) ≡ true
          → has_facts s g src ≡ true
      was_there g src true e named = cc (star_none g src a.rpt, named)
      was_there g src false e named =
          assert_is_fact s (names_source g src) key
          (either (names_source g src key) (list_any (names_source g src) (if a.rpt then star ∷ [] else [])) (λ h. h)
          (λ h. cc (star_none g src a.rpt, h)) named)
          (unmoved_has_row s rest key metric e)

  -- ---- an Assert that leaves (*,G) as it is

  star_names : (g src : ℕ) (b : Bool) → list_any (names_source g src) (if b then star ∷ [] else []) ≡ false
  star_names g src true = rw (star_names_none g src i a.group.bits) refl
  star_names g src false = refl

  abbrev sources : Bool → List Key
  sources none = if none then [] else key ∷ []

  abbrev stars : Bool → List Key
  stars b = if b then star ∷ [] else []

  abbrev may_move : Key → Bool
  may_move k = not (is_star k && is_unmoved (row_at s.asserts k) metric)

  left_keys : (none rpt b : Bool) → is_unmoved (row_at s.asserts star) metric ≡ b
      → filter may_move (sources none ++ stars rpt) ≡ sources none ++ stars (rpt && not b)
  left_keys true false b is = refl
  left_keys false false b is = refl
  left_keys true true true is = rw is refl
  left_keys true true false is = rw is refl
  left_keys false true true is = rw is refl
  left_keys false true false is = rw is refl

  moved_are : moved_asserts s i from a
      ≡ sources (a.source.bits == 0) ++ stars (a.rpt && not (is_unmoved (row_at s.asserts star) metric))
  unfolding moved_asserts asserted_keys
  moved_are = left_keys (a.source.bits == 0) a.rpt (is_unmoved (row_at s.asserts star) metric) refl

  moved_named : NewAreNamed (moved_asserts s i from a) s (assert_received s i from a).0
  unfolding asserted_keys
  moved_named g src there =
      ap (λ (b : Bool). has_facts s g src || b)
      (ap (λ (ks : List Key). list_any (names_source g src) ks) moved_are
      ∙ same_names (a.rpt && not (is_unmoved (row_at s.asserts star) metric)) a.rpt)
      ∙ asserted_named s i from a g src there
    where
      same_names : (b c : Bool)
          → list_any (names_source g src) (sources (a.source.bits == 0) ++ stars b)
          ≡ list_any (names_source g src) (sources (a.source.bits == 0) ++ stars c)
      same_names b c =
          list_any-append (names_source g src) (sources (a.source.bits == 0)) (stars b)
          ∙ ap (λ (d : Bool). list_any (names_source g src) (sources (a.source.bits == 0)) || d)
          (star_names g src b ∙ sym (star_names g src c))
          ∙ sym (list_any-append (names_source g src) (sources (a.source.bits == 0)) (stars c))

  -- where (*,G) stays as it is, what remains is of (S,G)
  of_source_alone : is_unmoved (row_at s.asserts star) metric ≡ true
      → AgreesBut (touching (sources (a.source.bits == 0))) s (assert_received s i from a).0
  unfolding assert_received
  of_source_alone stays = go (a.source.bits == 0)
    where
      of_star : (keys : List Key) (b : Bool)
          → AgreesBut (touching keys) s (cond b (assert_at s star metric) (let n : State × List Message = (s, []) in n)).0
      of_star keys true = widened [] keys s (assert_at s star metric).0 refl (at_agrees s rest star metric stays)
      of_star keys false = λ q h. refl

      on_to_star : (t : State × List Message) (rpt was still : Bool) → AgreesBut (touching (key ∷ [])) s t.0
          → (was ≡ false → still ≡ false → t.0 ≡ s)
          → AgreesBut (touching (key ∷ [])) s (cond (rpt && (not was && not still)) (assert_at t.0 star metric)
          (let n : State × List Message = (t.0, []) in n)).0
      on_to_star t true false false agrees same =
          subst (λ (u : State). AgreesBut (touching (key ∷ [])) s (assert_at u star metric).0) (sym (same refl refl))
          (of_star (key ∷ []) true)
      on_to_star t true false true agrees same = agrees
      on_to_star t true true still agrees same = agrees
      on_to_star t false was still agrees same = agrees

      go : (none : Bool)
          → (let first : State × List Message = cond none (s, []) (assert_at s key metric) in
          let goes_on : Bool = a.rpt && (none || (not (has_row s.asserts key) && not (has_row (first.0).asserts key))) in
          let second : State × List Message = cond goes_on (assert_at first.0 star metric) (first.0, []) in
          AgreesBut (touching (sources none)) s second.0)
      go true = of_star [] (a.rpt && true)
      go false =
          on_to_star (assert_at s key metric) a.rpt (has_row s.asserts key) (has_row (assert_at s key metric).0.asserts key)
          (machine_only key s metric) (λ was still. still_no_info key s metric was still)

  moved_agrees : (b : Bool) → is_unmoved (row_at s.asserts star) metric ≡ b
      → AgreesBut (touching (sources (a.source.bits == 0) ++ stars (a.rpt && not b))) s (assert_received s i from a).0
  unfolding asserted_keys
  moved_agrees true stays =
      subst (λ (ks : List Key). AgreesBut (touching ks) s (assert_received s i from a).0) (sym (none_more a.rpt)) (of_source_alone stays)
    where
      none_more : (b : Bool) → sources (a.source.bits == 0) ++ stars (b && false) ≡ sources (a.source.bits == 0)
      none_more true = append-nil (sources (a.source.bits == 0))
      none_more false = append-nil (sources (a.source.bits == 0))
  moved_agrees false moves =
      subst (λ (ks : List Key). AgreesBut (touching ks) s (assert_received s i from a).0) (all_named a.rpt) (assert_touches s i from a)
    where
      all_named : (b : Bool) → sources (a.source.bits == 0) ++ stars b ≡ sources (a.source.bits == 0) ++ stars (b && true)
      all_named true = refl
      all_named false = refl

  pub moved_concerned : Concerns (moved_asserts s i from a) s (assert_received s i from a).0
  moved_concerned = record {
    agrees =
        subst (λ (ks : List Key). AgreesBut (touching ks) s (assert_received s i from a).0) (sym moved_are)
        (moved_agrees (is_unmoved (row_at s.asserts star) metric) refl);
    named = moved_named;
  }
