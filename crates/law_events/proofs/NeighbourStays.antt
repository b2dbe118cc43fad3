-- A source that isn't touched: with a fact it isn't named, and with a fact or without it is answered in the end as it
-- was.
use Rattle.std.{proofs.Common.{◌≡◌, ◌==◌, ◌&&◌, ◌||◌, ℕ, Bool, true, false, List, [], is_some, map, refl, sym, ap, ◌∙◌, eqb-true, arith}, specs.{Cmp.{first_so, second_so}, List.list_any}}
use Rattle.pim_types.{specs.{declared.fact.Key.Key, Keys.{group_in, is_star, names_source, source_in, source_key}}}
use Rattle.pim_model.{specs.{Cache.answers, Clearing.clear, Desires.join_desired, Firing.settled, Messages.Message, Neighbours.{is_dr, nbr}, State.State, Tables.same_bool, Unicast.{route, rp_route}, Upstream.fact_keys}}
use Rattle.law_settled.{proofs.ListLaws.{any_among_all, each_of_list}}
use Rattle.law_events.{specs.{Locality.{AgreesBut, IsQuiet, touching}, Scopes.{only_priority, scope}, Named.is_source_named, Adjacent.{AdjoinsAlone, has_link_dr, is_touched_where_hop_differs, is_touched_where_link_differs, with_neighbour_rows}}, proofs.{QuietStates.{frame_packets, frame_upstream}, SameRows.flags, Touches.agrees_then, UntoldKeys.{join_desired_at, same_by_scope}, AbsentSources.absent_unwanted, Agreed.agreed_is_unnamed, Calm.settled_same, Configured.configured_beside, FactsThere.isnt_star, Told.second_left, NeighbourAnswers.{answers_so, hops_reach, named_so, reaches, unwanted_reaches}, Fewer.clearing_fewer, Goes.{OnTheWay, link_by_dr, link_now, source_now, star_now, star_out, third_of}, OtherNeighbours.{SameLinkDr, SameSourceDr, SameStarDr}, NeighbourSettles.{calm, calm_star, rp_hop_now, source_hop_now, taken_so, way_end}}}

module _ (keys : List Key) (o c : State) (quiet : IsQuiet o) (adjoins : AdjoinsAlone keys o c) where
  -- what has a fact and isn't touched has the same next hops
  abbrev calm_here : ℕ → ℕ → Bool
  calm_here = calm keys o c quiet adjoins

  calm_fact : (g src : ℕ) → list_any (names_source g src) (fact_keys o) ≡ true
      → touching keys (source_key 0 g src) ≡ false → calm_here g src ≡ true
  unfolding names_source
  calm_fact g src there out =
      any_among_all (λ k. is_touched_where_hop_differs keys o c k ≡ true) (names_source g src) of_key (fact_keys o)
      (each_of_list (is_touched_where_hop_differs keys o c) (fact_keys o) adjoins.taken) there
    where
      same : (k : Key) → (group_in k ≡ g) → (source_in k ≡ src)
          → (touching keys (source_key 0 (group_in k) (source_in k)) || calm_here (group_in k) (source_in k)) ≡ true
          → calm_here g src ≡ true
      same k group source e =
          second_left (touching keys (source_key 0 g src)) (calm_here g src)
          (sym (λ j. touching keys (source_key 0 (group j) (source j)) || calm_here (group j) (source j)) ∙ e) out

      of_key : (k : Key) → is_touched_where_hop_differs keys o c k ≡ true → names_source g src k ≡ true → calm_here g src ≡ true
      of_key k is e =
          let both : ((group_in k == g) && is_some k.source) ≡ true =
          first_so ((group_in k == g) && is_some k.source) (source_in k == src) e in
          same k (eqb-true (group_in k) g (first_so (group_in k == g) (is_some k.source) both))
          (eqb-true (source_in k) src (second_so ((group_in k == g) && is_some k.source) (source_in k == src) e))
          ((taken_so keys o c quiet adjoins 0 k is).source (second_so (group_in k == g) (is_some k.source) both))

  -- and the router is the DR of its link in both states, or in neither
  link_fact : (g src : ℕ) → list_any (names_source g src) (fact_keys o) ≡ true
      → touching keys (source_key 0 g src) ≡ false → has_link_dr o (route o src) ≡ has_link_dr c (route o src)
  unfolding names_source
  link_fact g src there out =
      flags (has_link_dr o (route o src)) (has_link_dr c (route o src))
      (any_among_all (λ k. is_touched_where_link_differs keys o c k ≡ true) (names_source g src) of_key (fact_keys o)
      (each_of_list (is_touched_where_link_differs keys o c) (fact_keys o) adjoins.linked) there)
    where
      of_key : (k : Key) → is_touched_where_link_differs keys o c k ≡ true → names_source g src k ≡ true
          → same_bool (has_link_dr o (route o src)) (has_link_dr c (route o src)) ≡ true
      of_key k is e =
          let both : ((group_in k == g) && is_some k.source) ≡ true =
          first_so ((group_in k == g) && is_some k.source) (source_in k == src) e in
          let group : group_in k ≡ g = eqb-true (group_in k) g (first_so (group_in k == g) (is_some k.source) both) in
          let source : source_in k ≡ src =
          eqb-true (source_in k) src (second_so ((group_in k == g) && is_some k.source) (source_in k == src) e) in
          (λ j. same_bool (has_link_dr o (route o (sym source j))) (has_link_dr c (route o (sym source j))))
          ∙ third_of (is_star k) (touching keys (source_key 0 (group_in k) (source_in k))) _ is
          (isnt_star k.source (second_so (group_in k == g) (is_some k.source) both))
          ((λ j. touching keys (source_key 0 (group j) (source j))) ∙ out)

  -- ---- a state on the way

  module _ (t : State) (way : OnTheWay keys o c quiet adjoins t) (g src : ℕ)
      (out : touching keys (source_key 0 g src) ≡ false) (link_dr : SameLinkDr t o.neighbours src) where
    abbrev back : State
    back = with_neighbour_rows t o.neighbours

    pub star_dr : SameStarDr t o.neighbours g
    star_dr = star_now keys o c quiet adjoins t way g (star_out keys (source_key 0 g src) out)

    pub source_dr : SameSourceDr t o.neighbours g src
    source_dr = source_now keys o c quiet adjoins t way g src out

    unnamed_before : is_source_named g src o back ≡ false
    unnamed_before = agreed_is_unnamed g src o back (way.agrees (source_key 0 g src) out)

    module _ (same : calm_here g src ≡ true) where
      rp_hop : nbr t (rp_route t g) ≡ nbr back (rp_route back g)
      rp_hop =
          rp_hop_now keys o c quiet adjoins t way (source_key 0 g src) out g
          (first_so (calm_star keys o c quiet adjoins g) _ same)

      hop : nbr t (route t src) ≡ nbr back (route back src)
      hop =
          source_hop_now keys o c quiet adjoins t way (source_key 0 g src) out src
          (second_so (calm_star keys o c quiet adjoins g) _ same)

      unnamed : is_source_named g src o t ≡ false
      unnamed = named_so t o.neighbours g src star_dr source_dr link_dr rp_hop hop o ∙ unnamed_before

      reached : reaches t o.neighbours g src star_dr source_dr link_dr t
          ≡ reaches t o.neighbours g src star_dr source_dr link_dr back
      reached = hops_reach t o.neighbours g src star_dr source_dr link_dr rp_hop hop

  pub adjoins_names : (g src : ℕ) → list_any (names_source g src) (fact_keys o) ≡ true
      → touching keys (source_key 0 g src) ≡ false → is_source_named g src o (clear o c).0 ≡ false
  adjoins_names g src there out =
      let way = way_end keys o c quiet adjoins in
      unnamed (clear o c).0 way g src out
      (link_now keys o c quiet adjoins (clear o c).0 way src (source_key 0 g src) out (link_fact g src there out))
      (calm_fact g src there out)

  -- ---- the end

  module _ (same_dr : (i : ℕ) → is_dr o i ≡ is_dr c i) (messages : List Message) (w : ℕ) where
    abbrev after : State
    after = (clear o c).0

    abbrev last : State
    last = (settled o (c, messages) w).0

    last_agrees : AgreesBut (touching []) after last
    unfolding settled
    last_agrees = grind (arith, agrees_then, frame_upstream, frame_packets)

    way_after : OnTheWay keys o c quiet adjoins after
    way_after = way_end keys o c quiet adjoins

    way_last : OnTheWay keys o c quiet adjoins last
    unfolding scope touching
    way_last = record {
      agrees = λ k out. way_after.agrees k out
          ∙ ap (λ (s : State). record s { neighbours = map only_priority o.neighbours }) (last_agrees k refl);
      configured = way_after.configured ∙ (configured_beside [] after last last_agrees).configured;
      neighbours = way_after.neighbours ∙ (settled_same o (c, messages) w).around.neighbours_same;
    }

    module _ (g src : ℕ) (out : touching keys (source_key 0 g src) ≡ false) where
      link : SameLinkDr last o.neighbours src
      link = link_by_dr keys o c quiet adjoins last way_last same_dr src

      abbrev stars : SameStarDr last o.neighbours g
      stars = star_dr last way_last g src out link

      abbrev sources : SameSourceDr last o.neighbours g src
      sources = source_dr last way_last g src out link

      absent_after : list_any (names_source g src) (fact_keys o) ≡ false
          → list_any (names_source g src) (fact_keys after) ≡ false
      absent_after none = go (list_any (names_source g src) (fact_keys after)) refl
        where
          go : (b : Bool) → list_any (names_source g src) (fact_keys after) ≡ b → b ≡ false
          go true e =
              sym (adjoins.facts (names_source g src) ((clearing_fewer o c).passed (names_source g src) e)) ∙ none
          go false e = refl

      unwanted : list_any (names_source g src) (fact_keys o) ≡ false → join_desired last g src ≡ false
      unfolding touching
      unwanted none =
          sym (same_by_scope (source_key 0 g src) (λ s. join_desired s g src) (λ s. join_desired_at g s src) after last
          (last_agrees (source_key 0 g src) refl))
          ∙ absent_unwanted g src after (absent_after none)

      same_reaches : (b : Bool) → list_any (names_source g src) (fact_keys o) ≡ b
          → reaches last o.neighbours g src stars sources link last
          ≡ reaches last o.neighbours g src stars sources link (with_neighbour_rows last o.neighbours)
      same_reaches true there = reached last way_last g src out link (calm_fact g src there out)
      same_reaches false none =
          unwanted_reaches last o.neighbours g src stars sources link (unwanted none)

      pub adjoins_stays : (is_source_named g src o (with_neighbour_rows last o.neighbours) ≡ false)
          × (answers (with_neighbour_rows last o.neighbours) g src ≡ answers last g src)
      adjoins_stays = (
        unnamed_before last way_last g src out link,
        sym (answers_so last o.neighbours g src stars sources link
            (same_reaches (list_any (names_source g src) (fact_keys o)) refl)),
      )
