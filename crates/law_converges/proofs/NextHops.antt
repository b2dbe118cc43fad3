-- A Join that follows the next hop, and the Prune to the one that it was.
use Rattle.std.{proofs.{Common.{◌≡◌, ◌∙◌, ℕ, suc, zero, ◌==◌, ◌&&◌, Bool, true, false, List, [], ◌∷◌, ◌++◌, filter, take, Option, Some, option_map, refl, sym, ap, subst, arith}, lemmas.{Bool.or_right, List.{Folds.list_any-append, Elements.{Contains-append_left, Contains-append_right}}}}, specs.List.{AllByRecursion, Contains, list_any}}
use Rattle.pim_ip.{specs.Addr.addr}
use Rattle.pim_types.{specs.{Keys.{names_source, star_key}, declared.{event.Event.Event, fact.{Key.Key, NeighbourRow.NeighbourRow}, outcome.Emission.Emission, path.Hop.Hop, upstream.{SourceView.SourceView, StarView.StarView}}}}
use Rattle.pim_wire.{specs.declared.join_prune.{Entry.Entry, EntryKind.EntryKind}}
use Rattle.pim_model.{specs.{declared.accepted.Accepted.Accepted, Cause.done_as, Clearing.clear, Desires.{join_desired, join_desired_star}, Firing.settled, Messages.{Message, entry}, Neighbours.is_neighbour, Querier.each_in_turn, State.State, Step.{Answered, change, done, step}, Tables.{Table, same_hop, same_iface}, Upstream.{Told, fact_keys, group_upstream, groups_of, if_neighbour, is_pruned_with_star, join_prune_to, join_source_to, join_star_to, most_pruned, prune_source_to, prune_star_to, pruned_with_star, source_stays, source_told, source_upstream, source_view, sources_of, star_stays, star_told, star_view, upstream, with_join_timer}}}
use Rattle.law_settled.{proofs.{ListLaws.{each_more, each_passes}, Unsettled.{Untold, cleared_in_the_end}}}
use Rattle.law_streams.{specs.{Copies.happens, Joins.{is_time, join_packet, join_to}, InTimeJoins.{Join, Source, Star, entry_of, rpf_of}}, proofs.{Made.step_taken, Leaves.{group_is_listed, in_turn, is_pruned_at_end, same_star_view, taken_is_done, told_leaves, wanted_is_fact}, Sources.{its_group_is_listed, same_source_view, source_is_listed, wanted_is_named}}}
use Rattle.law_converges.{specs.NextHops.{JoinFollowsNextHop, OldNextHopIsPruned, SendsTo, TurnsTo, prune_to}}

head_there : {X : Type 0} (x : X) (xs : List X) → Contains (x ∷ xs) x
head_there x xs = (0, omega arith, refl)

each_taken : {X : Type 0} (P : X → Type 0) (n : ℕ) (xs : List X) → AllByRecursion P xs → AllByRecursion P (take n xs)
each_taken P zero xs f = tt
each_taken P (suc n) [] f = tt
each_taken P (suc n) (x ∷ xs) f = (f.0, each_taken P n xs f.1)

any_last : {X : Type 0} (p : X → Bool) (xs ys : List X) → list_any p ys ≡ true → list_any p (xs ++ ys) ≡ true
any_last p xs ys e = list_any-append p xs ys ∙ or_right _ _ e

-- a Prune to a neighbour
says_prune : (a : State) (g : ℕ) (old : Hop) (y : Entry) → is_neighbour a old.iface.number old.address.bits ≡ true
    → join_prune_to (if_neighbour a (Some old)) g [] (y ∷ [])
    ≡ Message.JoinPrune old.iface.number old.address.bits g [] (y ∷ []) ∷ []
unfolding join_prune_to if_neighbour
says_prune a g old y there = rw there refl

-- ---- (*,G)

abbrev star_join : State → ℕ → ℕ → Hop → Message
star_join a g rp hop =
    Message.JoinPrune hop.iface.number hop.address.bits g (entry EntryKind.Star rp ∷ []) (pruned_with_star a g)

abbrev prune_of : ℕ → Hop → Entry → Message
prune_of g hop y = Message.JoinPrune hop.iface.number hop.address.bits g [] (y ∷ [])

-- what the machine of (*,G) sees
record StarTurns (rp : ℕ) (hop : Hop) (old new : StarView) : Type 0 where
  was : old.is_desired ≡ true
  wanted : new.is_desired ≡ true
  known : new.rp ≡ Some (addr rp)
  up : new.upstream ≡ Some hop
  another : same_hop old.upstream new.upstream ≡ false
  moved : (same_iface old.iface new.iface && same_hop old.next_hop new.next_hop) ≡ false

star_says : (a : State) (w g rp : ℕ) (hop : Hop) (old new : StarView) → StarTurns rp hop old new
    → (star_told a w g old new).messages
    ≡ join_star_to a (Some (addr rp)) (Some hop) g ++ prune_star_to a (Some (addr rp)) old.upstream g
unfolding star_told star_stays
star_says a w g rp hop old new f = rw (f.wanted, f.was, f.another, f.moved, f.known, f.up) refl

module _ (o a : State) (w g rp : ℕ) (hop : Hop) (f : StarTurns rp hop (star_view o g) (star_view a g)) where
  abbrev keys : List Key
  keys = fact_keys o ++ fact_keys a

  is_wanted_star : join_desired_star a g ≡ true
  unfolding star_view
  is_wanted_star = f.wanted

  is_listed : list_any (λ n. n == g) (groups_of keys) ≡ true
  is_listed = group_is_listed g keys ∙ any_last _ (fact_keys o) (fact_keys a) (wanted_is_fact g a is_wanted_star)

  abbrev star : Told
  star = star_told a w g (star_view o g) (star_view a g)

  -- what its machine says all say
  all_say : (m : Message) → Contains (star).messages m → Contains (upstream o a w).1 m
  unfolding upstream group_upstream
  all_say m c = in_turn (group_upstream o a w keys) m g group_says (groups_of keys) is_listed a
    where
      group_says : (s : State) → Contains (group_upstream o a w keys s g).1 m
      group_says s =
          Contains-append_left (star).messages
          (each_in_turn (source_upstream o a w g) (with_join_timer s (star_key 0 g) (star).timer) (sources_of g keys)).1 m c

  says_join : Contains (star).messages (star_join a g rp hop)
  unfolding join_star_to join_prune_to
  says_join =
      subst (λ (ms : List Message). Contains ms (star_join a g rp hop)) (sym (star_says a w g rp hop (star_view o g) (star_view a g) f))
      (head_there (star_join a g rp hop) _)

  says_old : (old : Hop) → (star_view o g).upstream ≡ Some old → is_neighbour a old.iface.number old.address.bits ≡ true
      → Contains (star).messages (prune_of g old (entry EntryKind.Star rp))
  unfolding prune_star_to
  says_old old up there =
      let all : (star).messages
      ≡ join_star_to a (Some (addr rp)) (Some hop) g ++ join_prune_to (if_neighbour a (Some old)) g [] (entry EntryKind.Star rp ∷ []) =
      star_says a w g rp hop (star_view o g) (star_view a g) f
      ∙ ap (λ (h : Option Hop). join_star_to a (Some (addr rp)) (Some hop) g ++ join_prune_to (if_neighbour a h) g [] (entry EntryKind.Star rp ∷ [])) up in
      subst (λ (ms : List Message). Contains ms (prune_of g old (entry EntryKind.Star rp))) (sym all)
      (Contains-append_right (join_star_to a (Some (addr rp)) (Some hop) g) _ _
      (subst (λ (ms : List Message). Contains ms (prune_of g old (entry EntryKind.Star rp)))
      (sym (says_prune a g old (entry EntryKind.Star rp) there)) (head_there _ [])))

-- ---- (S,G)

abbrev source_join : ℕ → ℕ → Hop → Message
source_join g src hop = Message.JoinPrune hop.iface.number hop.address.bits g (entry EntryKind.Source src ∷ []) []

record SourceTurns (hop : Hop) (old new : SourceView) : Type 0 where
  was : old.is_desired ≡ true
  wanted : new.is_desired ≡ true
  up : new.upstream ≡ Some hop
  another : same_hop old.upstream new.upstream ≡ false
  moved : (same_iface old.iface new.iface && same_hop old.next_hop new.next_hop) ≡ false

source_says : (a : State) (w g src : ℕ) (hop : Hop) (old new : SourceView) → SourceTurns hop old new
    → (source_told a w g src old new).messages ≡ join_source_to (Some hop) g src ++ prune_source_to a old.upstream g src
unfolding source_told source_stays
source_says a w g src hop old new f = rw (f.wanted, f.was, f.another, f.moved, f.up) refl

module _ (o a : State) (w g src : ℕ) (hop : Hop) (f : SourceTurns hop (source_view o g src) (source_view a g src)) where
  abbrev its_keys : List Key
  its_keys = fact_keys o ++ fact_keys a

  is_wanted_source : join_desired a g src ≡ true
  unfolding source_view
  is_wanted_source = f.wanted

  is_named : list_any (λ k. names_source g src k) its_keys ≡ true
  is_named = any_last _ (fact_keys o) (fact_keys a) (wanted_is_named g src a is_wanted_source)

  abbrev source : Told
  source = source_told a w g src (source_view o g src) (source_view a g src)

  all_say_source : (m : Message) → Contains (source).messages m → Contains (upstream o a w).1 m
  unfolding upstream group_upstream source_upstream
  all_say_source m c = in_turn (group_upstream o a w its_keys) m g group_says (groups_of its_keys) (its_group_is_listed g src its_keys is_named) a
    where
      turn_says : (s : State) → Contains (source_upstream o a w g s src).1 m
      turn_says s = Contains-append_left (source).messages _ m c

      group_says : (s : State) → Contains (group_upstream o a w its_keys s g).1 m
      group_says s =
          let star : Told = star_told a w g (star_view o g) (star_view a g) in
          Contains-append_right star.messages _ m
          (in_turn (source_upstream o a w g) m src turn_says (sources_of g its_keys) (source_is_listed g src its_keys ∙ is_named)
          (with_join_timer s (star_key 0 g) star.timer))

  source_says_join : Contains (source).messages (source_join g src hop)
  unfolding join_prune_to
  source_says_join =
      subst (λ (ms : List Message). Contains ms (source_join g src hop))
      (sym (source_says a w g src hop (source_view o g src) (source_view a g src) f)) (head_there (source_join g src hop) _)

  source_says_old : (old : Hop) → (source_view o g src).upstream ≡ Some old → is_neighbour a old.iface.number old.address.bits ≡ true
      → Contains (source).messages (prune_of g old (entry EntryKind.Source src))
  source_says_old old up there =
      let all : (source).messages
      ≡ join_source_to (Some hop) g src ++ join_prune_to (if_neighbour a (Some old)) g [] (entry EntryKind.Source src ∷ []) =
      source_says a w g src hop (source_view o g src) (source_view a g src) f
      ∙ ap (λ (h : Option Hop). join_source_to (Some hop) g src ++ join_prune_to (if_neighbour a h) g [] (entry EntryKind.Source src ∷ [])) up in
      subst (λ (ms : List Message). Contains ms (prune_of g old (entry EntryKind.Source src))) (sym all)
      (Contains-append_right (join_source_to (Some hop) g src) _ _
      (subst (λ (ms : List Message). Contains ms (prune_of g old (entry EntryKind.Source src)))
      (sym (says_prune a g old (entry EntryKind.Source src) there)) (head_there _ [])))

-- ---- a change with what follows

module _ (o : State) (c : State × List Message) (w g : ℕ) where
  abbrev cleared : State
  cleared = (clear o c.0).0

  abbrev after : State
  after = (settled o c w).0

  star_turns : (rp : ℕ) (hop : Hop) → TurnsTo (Star rp) o after g hop → StarTurns rp hop (star_view o g) (star_view cleared g)
  unfolding star_view
  star_turns rp hop f = subst (λ (v : StarView). StarTurns rp hop (star_view o g) v) (sym (same_star_view o c w g)) (record {
    was = f.wanted_before;
    wanted = f.wanted;
    known = ap (option_map addr) f.rp_known;
    up = f.upstream;
    another = f.another;
    moved = f.moved;
  })

  source_turns : (src : ℕ) (hop : Hop) → TurnsTo (Source src) o after g hop
      → SourceTurns hop (source_view o g src) (source_view cleared g src)
  unfolding source_view
  source_turns src hop f = subst (λ (v : SourceView). SourceTurns hop (source_view o g src) v) (sym (same_source_view g src o c w)) (record {
    was = f.wanted_before;
    wanted = f.wanted;
    up = f.upstream;
    another = f.another;
    moved = f.moved;
  })

  settled_sends : (x : Join) (hop : Hop) → TurnsTo x o after g hop → SendsTo x after g hop (settled o c w).1
  unfolding join_to join_packet pruned_with_star
  settled_sends (Star rp) hop f = record {
    pruned = take most_pruned (filter (is_pruned_with_star cleared g) (sources_of g (fact_keys cleared)));
    to_prune = each_more (λ src. is_pruned_with_star cleared g src ≡ true) (λ src. is_pruned_with_star after g src ≡ true)
        (λ src e. sym (is_pruned_at_end o c w g src) ∙ e) _
        (each_taken _ most_pruned _ (each_passes (is_pruned_with_star cleared g) (sources_of g (fact_keys cleared))));
    is_sent = told_leaves o c w hop.iface.number hop.address.bits g (entry EntryKind.Star rp ∷ []) (pruned_with_star cleared g)
        (all_say o cleared w g rp hop (star_turns rp hop f) (star_join cleared g rp hop)
        (says_join o cleared w g rp hop (star_turns rp hop f)));
  }
  settled_sends (Source src) hop f = record {
    pruned = [];
    to_prune = tt;
    is_sent = told_leaves o c w hop.iface.number hop.address.bits g (entry EntryKind.Source src ∷ []) []
        (all_say_source o cleared w g src hop (source_turns src hop f) (source_join g src hop)
        (source_says_join o cleared w g src hop (source_turns src hop f)));
  }

  still_neighbour : (i address : ℕ) → is_neighbour after i address ≡ true → is_neighbour cleared i address ≡ true
  still_neighbour i address there =
      subst (λ (t : Table NeighbourRow). is_neighbour (record cleared { neighbours = t }) i address ≡ true)
      (ap (λ (u : Untold). u.unsettled.neighbours) (cleared_in_the_end o c w)) there

  settled_prunes : (x : Join) (hop old : Hop) → TurnsTo x o after g hop → rpf_of x o g ≡ Some old
      → is_neighbour after old.iface.number old.address.bits ≡ true
      → Contains (settled o c w).1 (prune_to after old g (entry_of x))
  unfolding prune_to star_view source_view
  settled_prunes (Star rp) hop old f up there =
      told_leaves o c w old.iface.number old.address.bits g [] (entry EntryKind.Star rp ∷ [])
      (all_say o cleared w g rp hop (star_turns rp hop f) (prune_of g old (entry EntryKind.Star rp))
      (says_old o cleared w g rp hop (star_turns rp hop f) old up (still_neighbour old.iface.number old.address.bits there)))
  settled_prunes (Source src) hop old f up there =
      told_leaves o c w old.iface.number old.address.bits g [] (entry EntryKind.Source src ∷ [])
      (all_say_source o cleared w g src hop (source_turns src hop f) (prune_of g old (entry EntryKind.Source src))
      (source_says_old o cleared w g src hop (source_turns src hop f) old up (still_neighbour old.iface.number old.address.bits there)))

-- ---- by an event

module _ (s : State) (e : Event) (a : Accepted) (taken : done_as (happens s e) ≡ Some a) (timeless : is_time a ≡ false) where
  abbrev own : State × List Message
  own = ((change s e.draw a).state, (change s e.draw a).messages)

  is_done : step s e ≡ done s e.draw (change s e.draw a)
  is_done = step_taken s e a taken ∙ taken_is_done s e.draw a timeless

  its_state : (step s e).state ≡ (settled s own e.draw).0
  unfolding done
  its_state = ap (λ (x : Answered). x.state) is_done

  leaves_too : (m : Emission) → Contains (settled s own e.draw).1 m → Contains (step s e).emissions m
  unfolding done
  leaves_too m c =
      subst (λ (x : Answered). Contains x.emissions m) (sym is_done)
      (Contains-append_left ((settled s own e.draw).1 ++ (change s e.draw a).copies) (change s e.draw a).registered m
      (Contains-append_left (settled s own e.draw).1 (change s e.draw a).copies m c))

  event_sends : (x : Join) (g : ℕ) (hop : Hop) → TurnsTo x s (step s e).state g hop
      → SendsTo x (step s e).state g hop (step s e).emissions
  event_sends x g hop f =
      let sends : SendsTo x (settled s own e.draw).0 g hop (settled s own e.draw).1 =
      settled_sends s own e.draw g x hop (subst (λ (t : State). TurnsTo x s t g hop) its_state f) in
      subst (λ (t : State). SendsTo x t g hop (step s e).emissions) (sym its_state)
      (record { pruned = sends.pruned; to_prune = sends.to_prune; is_sent = leaves_too _ sends.is_sent })

  event_prunes : (x : Join) (g : ℕ) (hop old : Hop) → TurnsTo x s (step s e).state g hop → rpf_of x s g ≡ Some old
      → is_neighbour (step s e).state old.iface.number old.address.bits ≡ true
      → Contains (step s e).emissions (prune_to (step s e).state old g (entry_of x))
  event_prunes x g hop old f up there =
      leaves_too (prune_to (step s e).state old g (entry_of x))
      (subst (λ (t : State). Contains (settled s own e.draw).1 (prune_to t old g (entry_of x))) (sym its_state)
      (settled_prunes s own e.draw g x hop old (subst (λ (t : State). TurnsTo x s t g hop) its_state f) up
      (subst (λ (t : State). is_neighbour t old.iface.number old.address.bits ≡ true) its_state there)))

pub join_follows_next_hop : JoinFollowsNextHop
join_follows_next_hop x s e a g hop taken timeless f = event_sends s e a taken timeless x g hop f

pub old_next_hop_is_pruned : OldNextHopIsPruned
old_next_hop_is_pruned x s e a g hop old taken timeless f up there = event_prunes s e a taken timeless x g hop old f up there
