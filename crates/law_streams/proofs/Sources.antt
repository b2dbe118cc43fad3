-- A Join(S,G) that leaves.
use Rattle.std.{proofs.{Common.{◌≡◌, ◌∙◌, ℕ, ◌==◌, Bool, true, false, List, [], ◌∷◌, ◌++◌, Some, refl, sym, subst, arith}, lemmas.{Bool.{both_ways, or_right}, List.{Elements.{Contains-append_left, Contains-append_right}, Folds.list_any-append}}}, specs.List.{Contains, list_any}}
use Rattle.pim_types.{specs.{Keys.{names_source, source_key, star_key}, declared.{fact.Key.Key, path.Hop.Hop, upstream.SourceView.SourceView}}}
use Rattle.pim_wire.{specs.declared.join_prune.EntryKind.EntryKind}
use Rattle.pim_model.{specs.{Clearing.clear, Desires.join_desired, Firing.{fire_once, settled}, Messages.{Message, entry}, State.State, Step.{change, done, step}, Upstream.{Told, fact_keys, group_upstream, groups_of, join_prune_to, source_told, source_upstream, source_view, sources_of, star_told, star_view, upstream, with_join_timer}}}
use Rattle.law_settled.{proofs.{ListLaws.any_more, Numbers.any_ascending, TableLaws.{any_in_filter, any_of_map}}}
use Rattle.law_events.{specs.Scopes.reads, proofs.{Asserts.place_read, UntoldKeys.{same_by_scope, source_view_local}, AbsentSources.absent_unwanted}}
use Rattle.law_streams.{specs.Joins.{ComesToWantSource, SourceJoinLeaves, SourceJoinLeavesInTime, join_packet, join_to}, proofs.{Made.step_taken, Leaves.{group_is_listed, in_turn, rest_agrees, taken_is_done, told_leaves, untouched}}}

any_last : (p : Key → Bool) (xs ys : List Key) → list_any p ys ≡ true → list_any p (xs ++ ys) ≡ true
any_last p xs ys e = list_any-append p xs ys ∙ or_right _ _ e

module _ (g src : ℕ) where
  abbrev names : Key → Bool
  names k = names_source g src k

  -- ---- so it is told of

  pub wanted_is_named : (s : State) → join_desired s g src ≡ true → list_any names (fact_keys s) ≡ true
  wanted_is_named s wanted = grind (arith, both_ways, absent_unwanted)

  -- a source is listed where a key names it, and its group too
  pub source_is_listed : (ks : List Key) → list_any (λ n. n == src) (sources_of g ks) ≡ list_any names ks
  unfolding sources_of names_source
  source_is_listed ks = grind (arith, any_ascending, any_of_map, any_in_filter)

  pub its_group_is_listed : (ks : List Key) → list_any names ks ≡ true → list_any (λ n. n == g) (groups_of ks) ≡ true
  unfolding names_source
  its_group_is_listed ks named = grind (arith, named, group_is_listed, any_more)

  module _ (o a : State) (wanted : join_desired a g src ≡ true) where
    named : list_any names (fact_keys o ++ fact_keys a) ≡ true
    named = any_last names (fact_keys o) (fact_keys a) (wanted_is_named a wanted)

    its_group : list_any (λ n. n == g) (groups_of (fact_keys o ++ fact_keys a)) ≡ true
    its_group = its_group_is_listed (fact_keys o ++ fact_keys a) named

    itself : list_any (λ n. n == src) (sources_of g (fact_keys o ++ fact_keys a)) ≡ true
    itself = source_is_listed (fact_keys o ++ fact_keys a) ∙ named

  abbrev join_of : Hop → Message
  join_of hop = Message.JoinPrune hop.iface.number hop.address.bits g (entry EntryKind.Source src ∷ []) []

  source_says : (a : State) (w : ℕ) (hop : Hop) (old new : SourceView) → old.is_desired ≡ false → new.is_desired ≡ true
      → new.upstream ≡ Some hop → (source_told a w g src old new).messages ≡ join_of hop ∷ []
  unfolding source_told join_prune_to
  source_says a w hop old new unwanted wanted up = rw (wanted, unwanted, up) refl

  module _ (o a : State) (w : ℕ) (hop : Hop) (unwanted : (source_view o g src).is_desired ≡ false)
      (wanted : (source_view a g src).is_desired ≡ true) (up : (source_view a g src).upstream ≡ Some hop) where
    turn_says : (s : State) → Contains (source_upstream o a w g s src).1 (join_of hop)
    unfolding source_upstream
    turn_says s = grind (arith, Contains-append_left, source_says)

    is_wanted : join_desired a g src ≡ true
    unfolding source_view
    is_wanted = wanted

    abbrev keys : List Key
    keys = fact_keys o ++ fact_keys a

    group_says : (s : State) → Contains (group_upstream o a w keys s g).1 (join_of hop)
    unfolding group_upstream
    group_says s =
        let star : Told = star_told a w g (star_view o g) (star_view a g) in
        Contains-append_right star.messages _ (join_of hop)
        (in_turn (source_upstream o a w g) (join_of hop) src turn_says (sources_of g keys) (itself o a is_wanted)
        (with_join_timer s (star_key 0 g) star.timer))

    all_say : Contains (upstream o a w).1 (join_of hop)
    unfolding upstream
    all_say = in_turn (group_upstream o a w keys) (join_of hop) g group_says (groups_of keys) (its_group o a is_wanted) a

  pub same_source_view : (o : State) (c : State × List Message) (w : ℕ)
      → source_view (clear o c.0).0 g src ≡ source_view (settled o c w).0 g src
  same_source_view o c w =
      same_by_scope (source_key 0 g src) (λ x. source_view x g src)
      (λ x. source_view_local (reads (source_key 0 g src)) x g src (place_read (source_key 0 g src))) (clear o c.0).0
      (settled o c w).0 (rest_agrees o c w (source_key 0 g src) (untouched o c w (source_key 0 g src)))

  settled_sends : (o : State) (c : State × List Message) (w : ℕ) (hop : Hop) → ComesToWantSource o (settled o c w).0 g src hop
      → Contains (settled o c w).1 (join_to (settled o c w).0 hop g (entry EntryKind.Source src) [])
  unfolding join_to join_packet source_view
  settled_sends o c w hop f = grind (arith, same_source_view, told_leaves, all_say)

pub source_join_leaves : SourceJoinLeaves
unfolding done
source_join_leaves s e a g src hop was timeless f =
    let is : step s e ≡ done s e.draw (change s e.draw a) =
    step_taken s e a was ∙ taken_is_done s e.draw a timeless in
    let c : State × List Message = ((change s e.draw a).state, (change s e.draw a).messages) in
    subst (λ x. Contains x.emissions (join_to x.state hop g (entry EntryKind.Source src) [])) (sym is)
    (Contains-append_left ((settled s c e.draw).1 ++ (change s e.draw a).copies) (change s e.draw a).registered _
    (Contains-append_left (settled s c e.draw).1 (change s e.draw a).copies _
    (settled_sends g src s c e.draw hop (subst (λ x. ComesToWantSource s x.state g src hop) is f))))

pub source_join_leaves_in_time : SourceJoinLeavesInTime
unfolding fire_once
source_join_leaves_in_time w s e g src hop f = settled_sends g src s _ w hop f
