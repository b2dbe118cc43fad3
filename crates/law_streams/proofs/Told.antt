-- How many messages are told upstream of a change.
use Rattle.std.{proofs.Common.{◌≡◌, ◌∙◌, ℕ, ◌*◌, ◌≤◌, not, Bool, true, cond, List, [], ◌∷◌, ◌++◌, length, Option, option_map, ap, subst, arith, length-append}, specs.List.filter}
use Rattle.pim_ip.{specs.{Addr.addr, declared.addr.Addr.Addr}}
use Rattle.pim_types.{specs.{Keys.star_key, declared.{config.IfaceId.IfaceId, fact.Key.Key, path.{Hop.Hop, Path.Path}, upstream.{SourceView.SourceView, StarView.StarView, TreeState.TreeState}}}}
use Rattle.pim_wire.{specs.declared.join_prune.Entry.Entry}
use Rattle.pim_model.{specs.{Messages.Message, Neighbours.nbr, Querier.each_in_turn, State.State, Tables.{same_address, same_hop, same_iface}, Unicast.{route, rp_of, rp_route}, Upstream.{Told, TimerChange, group_upstream, groups_of, join_prune_to, join_star_to, prune_star_to, rpt_told, rpt_told_from, source_stays, source_told, source_upstream, source_view, star_stays, star_told, star_view}}}
use Rattle.law_settled.{proofs.ListLaws.by_cond}
use Rattle.law_events.{specs.{Locality.{AgreesBut, own_keys, own_upstream, touching}, Scopes.{reads, scope}}, proofs.{SharedMacros.{nbr_local, route_local, rp_of_local, rp_route_local}, UntoldKeys.{hop_itself, option_itself, same_by_scope, star_untold_where_agreed}, Configured.{beyond, untouched}}}
use Rattle.law_streams.{specs.Answers.{told_of_group, told_of_groups}}

-- ---- one message

to_one : (hop : Option Hop) (g : ℕ) (joins prunes : List Entry) → length (join_prune_to hop g joins prunes) ≤ 1
unfolding join_prune_to
to_one hop g joins prunes = grind arith

join_star_one : (s : State) (rp : Option Addr) (hop : Option Hop) (g : ℕ) → length (join_star_to s rp hop g) ≤ 1
unfolding join_star_to
join_star_one s rp hop g = grind (arith, to_one)

prune_star_one : (s : State) (rp : Option Addr) (hop : Option Hop) (g : ℕ) → length (prune_star_to s rp hop g) ≤ 1
unfolding prune_star_to
prune_star_one s rp hop g = grind (arith, to_one)

-- at most one
record Few (t : Told) : Type 0 where
  few : length t.messages ≤ 1

none_told : (t : TimerChange) → Few (record { timer = t; messages = [] })
none_told t = record { few = omega arith }

one_told : (t : TimerChange) (ms : List Message) → length ms ≤ 1 → Few (record { timer = t; messages = ms })
one_told t ms le = record { few = le }

none_few : (b : Bool) (ms : List Message) → length ms ≤ 1 → length (cond b [] ms) ≤ 1
none_few b ms le = grind arith

-- ---- where the routes are as they were

module _ (a : State) (w g : ℕ) where
  module _ (old new : StarView) (rp : same_address old.rp new.rp ≡ true) (iface : same_iface old.iface new.iface ≡ true)
      (hop : same_hop old.next_hop new.next_hop ≡ true) where
    star_stays_few : Few (star_stays a w g old new)
    unfolding star_stays
    star_stays_few = rw (iface, hop, rp) (by_cond Few (not (same_hop old.upstream new.upstream)) _ _ (none_told _) (none_told _))

    star_few : Few (star_told a w g old new)
    unfolding star_told
    star_few = grind (arith, by_cond, star_stays_few, one_told, join_star_one, none_few, prune_star_one, none_told)

  module _ (src : ℕ) (old new : SourceView) (iface : same_iface old.iface new.iface ≡ true)
      (hop : same_hop old.next_hop new.next_hop ≡ true) where
    source_stays_few : Few (source_stays a w g src old new)
    unfolding source_stays
    source_stays_few = rw (iface, hop) (by_cond Few (same_hop old.upstream new.upstream) _ _ (none_told _) (none_told _))

    source_few : Few (source_told a w g src old new)
    unfolding source_told
    source_few = grind (arith, by_cond, source_stays_few, one_told, to_one, none_told)

  rpt_few_from : (src : ℕ) (old new : SourceView) (x y : TreeState) → Few (rpt_told_from a w g src old new x y)
  unfolding rpt_told_from
  rpt_few_from src old new x y = grind (arith, one_told, to_one, by_cond, none_told)

  rpt_few : (src : ℕ) (old new : SourceView) → Few (rpt_told a w g src old new)
  unfolding rpt_told
  rpt_few src old new = rpt_few_from src old new old.tree new.tree

-- ---- where a change touches some keys alone, the routes are as they were

module _ (keys : List Key) (o a : State) (agree : AgreesBut (touching keys) o a) where
  abbrev other : Key
  other = star_key 0 (beyond keys)

  shared : {A : Type 0} (f : State → A) → ((s : State) → f (scope (reads other) s) ≡ f s) → f o ≡ f a
  shared f local = same_by_scope other f local o a (agree other (untouched keys))

  same_rp : (g : ℕ) → same_address (star_view o g).rp (star_view a g).rp ≡ true
  unfolding star_view
  same_rp g =
      subst (λ (x : Option ℕ). same_address (option_map addr (rp_of o g)) (option_map addr x) ≡ true)
      (shared (λ s. rp_of s g) (λ s. rp_of_local (reads other) s g))
      (option_itself (option_map (λ (x : Addr). x.bits) (option_map addr (rp_of o g))))

  abbrev iface_of : Option Path → Option IfaceId
  iface_of p = option_map (λ (x : Path). x.iface) p

  same_star_iface : (g : ℕ) → same_iface (star_view o g).iface (star_view a g).iface ≡ true
  unfolding star_view
  same_star_iface g =
      subst (λ (p : Option Path). same_iface (iface_of (rp_route o g)) (iface_of p) ≡ true)
      (shared (λ s. rp_route s g) (λ s. rp_route_local (reads other) s g))
      (option_itself (option_map (λ (x : IfaceId). x.number) (iface_of (rp_route o g))))

  same_star_hop : (g : ℕ) → same_hop (star_view o g).next_hop (star_view a g).next_hop ≡ true
  unfolding star_view
  same_star_hop g =
      subst (λ (h : Option Hop). same_hop (nbr o (rp_route o g)) h ≡ true)
      (shared (λ s. nbr s (rp_route s g))
      (λ s. nbr_local (reads other) s _ ∙ ap (nbr s) (rp_route_local (reads other) s g)))
      (hop_itself (nbr o (rp_route o g)))

  same_source_iface : (g src : ℕ) → same_iface (source_view o g src).iface (source_view a g src).iface ≡ true
  unfolding source_view
  same_source_iface g src =
      subst (λ (p : Option Path). same_iface (iface_of (route o src)) (iface_of p) ≡ true)
      (shared (λ s. route s src) (λ s. route_local (reads other) s src))
      (option_itself (option_map (λ (x : IfaceId). x.number) (iface_of (route o src))))

  same_source_hop : (g src : ℕ) → same_hop (source_view o g src).next_hop (source_view a g src).next_hop ≡ true
  unfolding source_view
  same_source_hop g src =
      subst (λ (h : Option Hop). same_hop (nbr o (route o src)) h ≡ true)
      (shared (λ s. nbr s (route s src))
      (λ s. nbr_local (reads other) s _ ∙ ap (nbr s) (route_local (reads other) s src)))
      (hop_itself (nbr o (route o src)))

  -- ---- what is told

  module _ (w g : ℕ) where
    source_two : (s : State) (src : ℕ) → length (source_upstream o a w g s src).1 ≤ 2
    unfolding source_upstream
    source_two s src = grind (arith, source_few, same_source_iface, same_source_hop, rpt_few, length-append)

    sources_two : (srcs : List ℕ) (s : State) → length (each_in_turn (source_upstream o a w g) s srcs).1 ≤ 2 * length srcs
    unfolding each_in_turn
    sources_two [] s = omega arith
    sources_two (src ∷ srcs) s =
        let first : State × List Message = source_upstream o a w g s src in
        let x : length first.1 ≤ 2 = source_two s src in
        let y : length (each_in_turn (source_upstream o a w g) first.0 srcs).1 ≤ 2 * length srcs = sources_two srcs first.0 in
        let z = length-append first.1 (each_in_turn (source_upstream o a w g) first.0 srcs).1 in
        omega (arith, x, y, z)

    star_if_touched : length (star_told a w g (star_view o g) (star_view a g)).messages ≤ cond (touching keys (star_key 0 g)) 1 0
    star_if_touched = grind (arith, star_few, same_rp, same_star_iface, same_star_hop, star_untold_where_agreed)

    group_told : (s : State)
        → length (group_upstream o a w (filter (touching keys) (own_keys g o ++ own_keys g a)) s g).1
        ≤ told_of_group keys o a g
    unfolding group_upstream told_of_group
    group_told s = grind (arith, star_if_touched, sources_two, length-append)

  groups_told : (w : ℕ) (gs : List ℕ) (s : State)
      → length (each_in_turn (λ t g. group_upstream o a w (filter (touching keys) (own_keys g o ++ own_keys g a)) t g) s gs).1
      ≤ told_of_groups keys o a gs
  unfolding each_in_turn told_of_groups
  groups_told w [] s = omega arith
  groups_told w (g ∷ gs) s =
      let turn : State → ℕ → State × List Message =
      λ t h. group_upstream o a w (filter (touching keys) (own_keys h o ++ own_keys h a)) t h in
      let x : length (turn s g).1 ≤ told_of_group keys o a g = group_told w g s in
      let y : length (each_in_turn turn (turn s g).0 gs).1 ≤ told_of_groups keys o a gs = groups_told w gs (turn s g).0 in
      let z = length-append (turn s g).1 (each_in_turn turn (turn s g).0 gs).1 in
      omega (arith, x, y, z)

  pub upstream_told : (w : ℕ) → length (own_upstream keys o a w).1 ≤ told_of_groups keys o a (groups_of keys)
  unfolding own_upstream
  upstream_told w = groups_told w (groups_of keys) a
