-- What is sent upstream, where the states agree on all keys but the touched ones, is told of those alone.
use Rattle.std.{proofs.{Common.{◌≡◌, ◌==◌, ◌||◌, ◌&&◌, ℕ, Bool, true, false, List, [], ◌∷◌, map, is_some, refl, sym, ap, ◌∙◌, arith, eq-eqb, eqb-true}, lemmas.{Bool.{or_parts, Decides.nat_tests}, List.Folds.list_any-append, Grind.common_steps}}, specs.{Cmp.{first_so, second_so, Derive.both_true}, List.{filter, list_any}}}
use Rattle.pim_types.{specs.{Keys.{group_in, is_of_group, source_in, source_key, star_key}, declared.fact.Key.Key}}
use Rattle.pim_model.{specs.{Messages.Message, Querier.each_in_turn, State.State, Tables.{ascending, is_among}, Upstream.{group_upstream, groups_of, nothing_told, source_upstream, sources_of, star_told, star_view, upstream, with_join_timer}}}
use Rattle.law_settled.{proofs.{ListLaws.{any_more, any_of_filter}, TableLaws.{any_in_filter, any_of_map}, AbsentGroups.{absent_is_undesired, names, no_sources}, Numbers.{any_ascending, rises_ascending, rises_filtered, same_numbers}}}
use Rattle.law_events.{specs.{Locality.{AgreesBut, IsClosed, facts_of_both, touched_upstream}, Scopes.reads}, proofs.{Asserts.source_read, Turns.turns_filtered, UntoldKeys.{no_source_upstream, nothing_of_star}}}

-- ---- members

picked_step : (b c d e x : Bool) → (b ≡ true → c ≡ d) → x ≡ (d && e) → ((c && b) || x) ≡ (d && (b || e))
picked_step b c d e x f g = grind arith

-- one number is looked for
picked : (n : ℕ) (p : ℕ → Bool) (ms : List ℕ) → list_any (λ m. p m && (m == n)) ms ≡ (p n && list_any (λ m. m == n) ms)
picked n p [] = grind (arith, common_steps)
picked n p (m ∷ ms) = grind (arith, picked n p ms, picked_step, nat_tests)

-- what is in its own order stays, but for what doesn't pass
pub filtered_order : (p : ℕ → Bool) (ns ms : List ℕ)
    → ((n : ℕ) → (p n && list_any (λ m. m == n) ns) ≡ list_any (λ m. m == n) ms)
    → filter p (ascending ns) ≡ ascending ms
unfolding is_among
filtered_order p ns ms same =
    same_numbers 0 0 (filter p (ascending ns)) (ascending ms) (rises_filtered p 0 (ascending ns) (rises_ascending ns))
    (rises_ascending ms)
    (λ n. any_in_filter p (λ m. m == n) (ascending ns)
    ∙ (picked n p (ascending ns)
    ∙ (ap (λ b. p n && b) (any_ascending (λ m. m == n) ns) ∙ (same n ∙ sym (any_ascending (λ m. m == n) ms)))))

pub first_implies : (b c : Bool) → (b ≡ true → c ≡ true) → (b && c) ≡ b
first_implies b c f = grind arith

pub reads_star : (g : ℕ) (q : Key) → is_of_group g q ≡ true → reads q (star_key 0 g) ≡ true
unfolding reads
reads_star g q e = both_true (eq-eqb g (group_in q) (sym (eqb-true (group_in q) g e))) refl

-- one test of keys that agrees with another where a third passes
narrowed_step : (b c d e x y : Bool) → (c ≡ true → b ≡ d) → (d && y) ≡ x → (d && (c || y)) ≡ ((b && c) || x)
narrowed_step b c d e x y f g = grind arith

module _ (touches : Key → Bool) (closed : IsClosed touches) where
  -- keys that read one another are touched alike
  alike : (k q : Key) → reads k q ≡ true → reads q k ≡ true → touches k ≡ touches q
  alike k q e f = grind arith

  -- the touched keys that pass a test, where what passes is touched as one key is
  counted : (p : Key → Bool) (k : Key) → ((q : Key) → p q ≡ true → touches q ≡ touches k) → (ks : List Key)
      → (touches k && list_any p ks) ≡ list_any (λ q. touches q && p q) ks
  counted p k same [] = grind (arith, common_steps)
  counted p k same (q ∷ qs) = grind (arith, counted p k same qs, narrowed_step)

  module _ (g src : ℕ) where
    abbrev is_of_it : Key → Bool
    is_of_it q = is_of_group g q && is_some q.source && (source_in q == src)

    touched_as_it : (q : Key) → is_of_it q ≡ true → touches q ≡ touches (source_key 0 g src)
    touched_as_it q e =
        let of_group : (group_in q == g) ≡ true =
        first_so (is_of_group g q) (is_some q.source)
        (first_so (is_of_group g q && is_some q.source) (source_in q == src) e) in
        let of_source : (source_in q == src) ≡ true =
        second_so (is_of_group g q && is_some q.source) (source_in q == src) e in
        let group : group_in q ≡ g = eqb-true (group_in q) g of_group in
        let source : source_in q ≡ src = eqb-true (source_in q) src of_source in
        alike q (source_key 0 g src) (source_read q (source_key 0 g src) (sym group) (sym source))
        (source_read (source_key 0 g src) q group source)

  -- its touched sources are those of the touched keys
  abbrev is_touched : ℕ → ℕ → Bool
  is_touched g src = touches (source_key 0 g src)

  of_source : (g n : ℕ) (ks : List Key)
      → list_any (λ m. m == n) (map source_in (filter (λ k. is_of_group g k && is_some k.source) ks))
      ≡ list_any (is_of_it g n) ks
  of_source g n ks = grind (arith, any_of_map, any_in_filter)

  pub touched_sources_of : (g : ℕ) (ks : List Key)
      → filter (is_touched g) (sources_of g ks) ≡ sources_of g (filter touches ks)
  unfolding sources_of
  touched_sources_of g ks = grind (arith, filtered_order, of_source, counted, touched_as_it, any_in_filter)

  -- ---- the turns

  module _ (o a : State) (w : ℕ) (agree : AgreesBut touches o a) (keys : List Key) where
    abbrev turn : List Key → State → ℕ → State × List Message
    turn ks s g = group_upstream o a w ks s g

    own_sources : (g : ℕ) (s : State)
        → each_in_turn (source_upstream o a w g) s (sources_of g keys)
        ≡ each_in_turn (source_upstream o a w g) s (sources_of g (filter touches keys))
    own_sources g s =
        turns_filtered (source_upstream o a w g) (is_touched g)
        (λ t src e. no_source_upstream g o a w src (agree (source_key 0 g src) e) t) (sources_of g keys) s
        ∙ ap (λ srcs. each_in_turn (source_upstream o a w g) s srcs) (touched_sources_of g keys)

    pub touched_turn : (s : State) (g : ℕ) → turn keys s g ≡ turn (filter touches keys) s g
    unfolding group_upstream
    touched_turn s g = grind (arith, own_sources)

    -- a group none of whose facts is touched
    star_untouched : (g : ℕ) → names g keys ≡ true → names g (filter touches keys) ≡ false
        → touches (star_key 0 g) ≡ false
    star_untouched g there none = go (touches (star_key 0 g)) refl
      where
        go : (b : Bool) → touches (star_key 0 g) ≡ b → b ≡ false
        go true e =
            let passes : list_any (λ q. touches q && is_of_group g q) keys ≡ true =
            any_more (is_of_group g) (λ q. touches q && is_of_group g q)
            (λ q f. both_true (closed (star_key 0 g) q e (reads_star g q f)) f) keys there in
            cc (any_in_filter touches (is_of_group g) keys, passes, none)
        go false e = refl

    nothing_there : (g : ℕ) → names g keys ≡ true → names g (filter touches keys) ≡ false → (s : State)
        → turn (filter touches keys) s g ≡ (s, [])
    unfolding group_upstream with_join_timer each_in_turn
    nothing_there g there none s = grind (arith, nothing_of_star, star_untouched, no_sources)

  -- ---- all turns

  module _ (o a : State) (w : ℕ) (agree : AgreesBut touches o a) where
    abbrev facts : List Key
    facts = facts_of_both o a

    star_absent : (g : ℕ) → names g facts ≡ false → star_told a w g (star_view o g) (star_view a g) ≡ nothing_told
    unfolding star_told star_view facts_of_both
    star_absent g absent = grind (arith, names, list_any-append, absent_is_undesired, or_parts)

    absent_untold : (g : ℕ) → names g facts ≡ false → (s : State) → group_upstream o a w facts s g ≡ (s, [])
    unfolding group_upstream with_join_timer each_in_turn
    absent_untold g absent s = grind (arith, star_absent, no_sources)

    pub untouched_turn : (s : State) (g : ℕ) → names g (filter touches facts) ≡ false
        → group_upstream o a w facts s g ≡ (s, [])
    untouched_turn s g none = grind (arith, names, touched_turn, nothing_there, absent_untold)

    same_groups : filter (λ g. names g (filter touches facts)) (groups_of facts) ≡ groups_of (filter touches facts)
    unfolding groups_of
    same_groups =
        filtered_order (λ g. names g (filter touches facts)) (map group_in facts) (map group_in (filter touches facts))
        (λ n. ap (λ b. names n (filter touches facts) && b) (any_of_map (λ m. m == n) group_in facts)
        ∙ (first_implies (names n (filter touches facts)) (names n facts) (any_of_filter touches (is_of_group n) facts)
        ∙ sym (any_of_map (λ m. m == n) group_in (filter touches facts))))

    pub upstream_of_touched : upstream o a w ≡ touched_upstream touches o a w
    unfolding upstream touched_upstream facts_of_both
    upstream_of_touched = grind (arith, turns_filtered, names, untouched_turn, same_groups, touched_turn)

pub upstream_is_local : (touches : Key → Bool) → IsClosed touches → (o a : State) (w : ℕ) → AgreesBut touches o a
    → upstream o a w ≡ touched_upstream touches o a w
upstream_is_local touches closed o a w agree = upstream_of_touched touches closed o a w agree
