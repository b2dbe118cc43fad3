-- All that follows of a change of neighbours follows of the keys that take what it moves: the views of what isn't
-- touched are as they were. So is what is asked of sources that aren't touched.
use Rattle.std.{proofs.Common.{◌≡◌, ◌&&◌, ◌||◌, ℕ, Bool, true, false, not, List, [], ◌++◌, Option, refl, sym, ap, ◌∙◌, eq-eqb, arith}, specs.{Cmp.{first_so, second_so}, List.AllByRecursion}}
use Rattle.pim_types.{specs.{declared.{fact.Key.Key, path.Path.Path, upstream.StarView.StarView}, Keys.{source_key, star_key}}}
use Rattle.pim_model.{specs.{Clearing.clear, Firing.settled, Messages.Message, Neighbours.nbr, State.State, Unicast.{route, rp_route}, Upstream.{fact_keys, nothing_told, source_upstream, source_view, star_told, star_view, upstream}}}
use Rattle.law_settled.{proofs.ListLaws.{each_append, each_more, each_of_list}}
use Rattle.law_events.{specs.{Locality.{AgreesOn, IsQuiet, own_settled, own_upstream, touching}, Scopes.reads, Adjacent.{AdjoinsAlone, has_same_hop, is_touched_where_hop_differs, with_neighbour_rows}}, proofs.{SharedMacros.{route_local, rp_route_local}, Touches.touching_is_closed, TouchedUpstream.reads_star, UntoldKeys.{same_by_scope, source_untold_where_agreed, source_view_at, star_untold_where_agreed, star_view_at}, FactsThere.isnt_star, Told.{IsTaken, own_told, settles_as, swap}, KeptSources.hop_equal, Fewer.{all_stay, clearing_fewer}, Goes.{OnTheWay, adjoins_goes, end_is_on_the_way, source_now, star_now, star_out}, OtherNeighbours.{SameSourceDr, SameStarDr, desired_so, desired_star_so, rpf_rpt_so, rpf_source_so, route_as, rp_as, rp_route_as, rpf_star_so, tree_state_so}}}

module _ (keys : List Key) (o c : State) (quiet : IsQuiet o) (adjoins : AdjoinsAlone keys o c) where
  -- ---- a state on the way

  module _ (t : State) (way : OnTheWay keys o c quiet adjoins t) where
    abbrev back : State
    back = with_neighbour_rows t o.neighbours

    -- a path has the same next hop with both tables of neighbours
    hop_now : (path : Option Path) → has_same_hop o c path ≡ true → nbr t path ≡ nbr back path
    unfolding nbr
    hop_now path same = grind (arith, hop_equal)

    -- ---- what isn't touched reads the same

    module _ (k : Key) (out : touching keys k ≡ false) where
      agreed : AgreesOn k o back
      agreed = way.agrees k out

      rp_route_now : (g : ℕ) → rp_route o g ≡ rp_route t g
      rp_route_now g =
          same_by_scope k (λ u. rp_route u g) (λ u. rp_route_local (reads k) u g) o back agreed
          ∙ sym (rp_route_as t o.neighbours g)

      route_now : (src : ℕ) → route o src ≡ route t src
      route_now src =
          same_by_scope k (λ u. route u src) (λ u. route_local (reads k) u src) o back agreed
          ∙ sym (route_as t o.neighbours src)

      pub rp_hop_now : (g : ℕ) → has_same_hop o c (rp_route o g) ≡ true
          → nbr t (rp_route t g) ≡ nbr back (rp_route back g)
      rp_hop_now g same = grind (arith, hop_now, rp_route_now, rp_route_as)

      pub source_hop_now : (src : ℕ) → has_same_hop o c (route o src) ≡ true
          → nbr t (route t src) ≡ nbr back (route back src)
      source_hop_now src same = grind (arith, hop_now, route_now, route_as)

    star_view_so : (g : ℕ) → SameStarDr t o.neighbours g → nbr t (rp_route t g) ≡ nbr back (rp_route back g) → star_view t g ≡ star_view back g
    unfolding star_view
    star_view_so g stars rp_hop = grind (arith, desired_star_so, rp_as, rp_route_as, rpf_star_so)

    source_view_so : (g src : ℕ) → SameStarDr t o.neighbours g → SameSourceDr t o.neighbours g src → nbr t (rp_route t g) ≡ nbr back (rp_route back g)
        → nbr t (route t src) ≡ nbr back (route back src) → source_view t g src ≡ source_view back g src
    unfolding source_view
    source_view_so g src stars sources rp_hop hop =
        grind (arith, desired_so, route_as, rpf_source_so, rpf_star_so, rpf_rpt_so, tree_state_so)

    star_same : (g : ℕ) → touching keys (star_key 0 g) ≡ false → has_same_hop o c (rp_route o g) ≡ true
        → star_view o g ≡ star_view t g
    star_same g out same =
        same_by_scope (star_key 0 g) (λ u. star_view u g) (star_view_at g) o back (way.agrees (star_key 0 g) out)
        ∙ sym (star_view_so g (star_now keys o c quiet adjoins t way g out) (rp_hop_now (star_key 0 g) out g same))

    source_same : (g src : ℕ) → touching keys (source_key 0 g src) ≡ false → has_same_hop o c (rp_route o g) ≡ true
        → has_same_hop o c (route o src) ≡ true → source_view o g src ≡ source_view t g src
    source_same g src out rp_same same =
        let k : Key = source_key 0 g src in
        same_by_scope k (λ u. source_view u g src) (λ u. source_view_at g u src) o back (way.agrees k out)
        ∙ sym (source_view_so g src (star_now keys o c quiet adjoins t way g (star_out keys k out))
        (source_now keys o c quiet adjoins t way g src out) (rp_hop_now k out g rp_same) (source_hop_now k out src same))

  -- ---- what is told

  abbrev pub end : State
  end = (clear o c).0

  abbrev pub way_end : OnTheWay keys o c quiet adjoins end
  way_end = end_is_on_the_way keys o c quiet adjoins

  -- the routes of the group, and of its source, have the same next hops
  abbrev pub calm_star : ℕ → Bool
  calm_star g = has_same_hop o c (rp_route o g)

  abbrev pub calm : ℕ → ℕ → Bool
  calm g src = calm_star g && has_same_hop o c (route o src)

  module _ (w : ℕ) where
    pub star_idle : (g : ℕ) → touching keys (star_key 0 g) ≡ false → calm_star g ≡ true
        → star_told end w g (star_view o g) (star_view end g) ≡ nothing_told
    star_idle g out same =
        ap (λ (v : StarView). star_told end w g v (star_view end g)) (star_same end way_end g out same)
        ∙ star_untold_where_agreed g end end w refl

    pub source_idle : (g src : ℕ) → touching keys (source_key 0 g src) ≡ false → calm g src ≡ true → (s : State)
        → source_upstream o end w g s src ≡ (s, [])
    unfolding source_upstream
    source_idle g src out same s =
        rw (source_same end way_end g src out (first_so (calm_star g) _ same) (second_so (calm_star g) _ same))
        (source_untold_where_agreed g src end end w refl s)

    abbrev pub TakenHere : Key → Type 0
    TakenHere = IsTaken keys o end w calm_star calm star_idle source_idle

    -- a touched (*,G) touches its sources
    of_source : (st so a b n : Bool) → (st ≡ true → so ≡ true) → (a || st) ≡ true → (n || b || so) ≡ true → n ≡ false
        → (so || (a && b)) ≡ true
    of_source st so a b n up e f g = grind arith

    pub taken_so : (k : Key) → is_touched_where_hop_differs keys o c k ≡ true → TakenHere k
    taken_so k is = grind (arith, swap, of_source, touching_is_closed, reads_star, eq-eqb, isnt_star)

    -- what isn't taken had no facts, and has none
    facts_taken : AllByRecursion TakenHere (fact_keys o ++ fact_keys end)
    facts_taken =
        each_append TakenHere (fact_keys o) (fact_keys end)
        (each_more (λ k. is_touched_where_hop_differs keys o c k ≡ true) TakenHere taken_so (fact_keys o)
        (each_of_list (is_touched_where_hop_differs keys o c) (fact_keys o) adjoins.taken))
        (each_more (λ k. is_touched_where_hop_differs keys o c k ≡ true) TakenHere taken_so (fact_keys end)
        (each_of_list (is_touched_where_hop_differs keys o c) (fact_keys end)
        (all_stay (is_touched_where_hop_differs keys o c) (fact_keys o) (fact_keys end)
        (λ e. adjoins.facts (λ k. not (is_touched_where_hop_differs keys o c k))
        ((clearing_fewer o c).passed (λ k. not (is_touched_where_hop_differs keys o c k)) e)) adjoins.taken)))

    told : upstream o end w ≡ own_upstream keys o end w
    told = own_told keys o end w calm_star calm star_idle source_idle facts_taken

  pub adjoins_settles : (messages : List Message) (w : ℕ)
      → settled o (c, messages) w ≡ own_settled keys o (c, messages) w
  adjoins_settles messages w = settles_as keys o c messages w (adjoins_goes keys o c quiet adjoins) (told w)
