-- What is sent upstream is told of the touched keys, where nothing is told of what isn't touched and has facts.
use Rattle.std.{proofs.{Common.{◌≡◌, ◌==◌, ◌&&◌, ◌||◌, ℕ, Bool, true, false, not, cond, List, [], ◌∷◌, ◌++◌, filter, map, is_some, refl, sym, ap, subst, ◌∙◌, eqb-true, arith}, lemmas.{Bool.or_parts, List.Folds.list_any-append}}, specs.{Cmp.{first_so, second_so}, List.{AllByRecursion, list_all, list_any}}}
use Rattle.pim_types.{specs.{declared.fact.Key.Key, Keys.{group_in, is_of_group, source_in, source_key, star_key}}}
use Rattle.pim_model.{specs.{Clearing.clear, Firing.settled, Messages.Message, Querier.each_in_turn, State.State, Tables.ascending, Upstream.{fact_keys, group_upstream, groups_of, nothing_told, source_upstream, sources_of, star_told, star_view, upstream, with_join_timer}}}
use Rattle.law_settled.{proofs.{AbsentGroups.{absent_is_undesired, names, no_sources}, ListLaws.{any_among_all, any_more, any_of_filter, each_map, each_more, each_of_all, each_of_list, each_passing, list_of_each}, Numbers.any_ascending, TableLaws.{any_in_filter, any_of_map}}}
use Rattle.law_events.{specs.{Locality.{own_keys, own_settled, own_upstream, touched_clear, touched_registers, touching}, Scopes.reads}, proofs.{OwnKeys.own_touched, Touches.touching_is_closed, TouchedUpstream.{filtered_order, first_implies, reads_star, touched_sources_of}, Turns.turns_filtered, Reached.all_of_none, NamedSameRows.not_false}}

-- ---- lists

-- tests that agree on each element
same_filters : {X : Type 0} (p q : X → Bool) (xs : List X) → AllByRecursion (λ x. p x ≡ q x) xs → filter p xs ≡ filter q xs
same_filters p q [] e = refl
same_filters p q (x ∷ xs) e = λ j. cond (e.0 j) (x ∷ same_filters p q xs e.1 j) (same_filters p q xs e.1 j)

pub none_fails : {X : Type 0} (p : X → Bool) (xs : List X) → list_all p xs ≡ true → list_any (λ x. not (p x)) xs ≡ false
none_fails p [] e = refl
none_fails p (x ∷ xs) e = grind (arith, none_fails p xs)

all_ascending : (p : ℕ → Bool) (ns : List ℕ) → list_all p ns ≡ true → list_all p (ascending ns) ≡ true
all_ascending p ns e = all_of_none p (ascending ns) (any_ascending (λ n. not (p n)) ns ∙ none_fails p ns e)

-- ---- either way

pub second_left : (b d : Bool) → (b || d) ≡ true → b ≡ false → d ≡ true
second_left b d e f = grind arith

pub swap : (a b : Bool) → (a || b) ≡ true → (b || a) ≡ true
swap a b e = grind arith

-- ---- the turns

-- the tests of a group and of a source say that nothing is told where neither is touched; of what has facts each is
-- touched, or passes
module _ (keys : List Key) (o a : State) (w : ℕ) (calm_star : ℕ → Bool) (calm : ℕ → ℕ → Bool)
    (star_idle : (g : ℕ) → touching keys (star_key 0 g) ≡ false → calm_star g ≡ true
    → star_told a w g (star_view o g) (star_view a g) ≡ nothing_told)
    (source_idle : (g src : ℕ) → touching keys (source_key 0 g src) ≡ false → calm g src ≡ true → (s : State)
    → source_upstream o a w g s src ≡ (s, [])) where
  abbrev facts : List Key
  facts = fact_keys o ++ fact_keys a

  abbrev touched : List Key
  touched = filter (touching keys) facts

  abbrev turn : List Key → State → ℕ → State × List Message
  turn ks s g = group_upstream o a w ks s g

  -- the messages of a key, where it has facts
  pub record IsTaken (k : Key) : Type 0 where
    pub star : (touching keys (star_key 0 (group_in k)) || calm_star (group_in k)) ≡ true
    pub source : is_some k.source ≡ true
        → (touching keys (source_key 0 (group_in k) (source_in k)) || calm (group_in k) (source_in k)) ≡ true

  module _ (taken : AllByRecursion IsTaken facts) where
    module _ (g : ℕ) where
      abbrev of_touched : ℕ → Bool
      of_touched src = touching keys (source_key 0 g src)

      abbrev of_it : Key → Bool
      of_it k = is_of_group g k && is_some k.source

      either_of : (k : Key) → IsTaken k → of_it k ≡ true → (of_touched (source_in k) || calm g (source_in k)) ≡ true
      either_of k is e = grind (arith, eqb-true)

      each_source : AllByRecursion (λ src. (of_touched src || calm g src) ≡ true) (sources_of g facts)
      unfolding sources_of
      each_source =
          each_of_list (λ src. of_touched src || calm g src) (sources_of g facts)
          (all_ascending (λ src. of_touched src || calm g src) (map source_in (filter of_it facts))
          (list_of_each (λ src. of_touched src || calm g src) (map source_in (filter of_it facts))
          (each_map (λ k. IsTaken k × (of_it k ≡ true)) (λ src. (of_touched src || calm g src) ≡ true) source_in
          (λ k e. either_of k e.0 e.1) (filter of_it facts)
          (each_passing IsTaken of_it facts taken))))

      -- touched, or not known to be calm
      abbrev asked : ℕ → Bool
      asked src = of_touched src || not (calm g src)

      same_asked : (b d : Bool) → (b || d) ≡ true → (b || not d) ≡ b
      same_asked b d e = grind arith

      idle : (s : State) (src : ℕ) → asked src ≡ false → source_upstream o a w g s src ≡ (s, [])
      idle s src e = grind (arith, or_parts, not_false)

      own_sources : (s : State)
          → each_in_turn (source_upstream o a w g) s (sources_of g facts)
          ≡ each_in_turn (source_upstream o a w g) s (sources_of g touched)
      own_sources s =
          turns_filtered (source_upstream o a w g) asked idle (sources_of g facts) s
          ∙ ap (λ srcs. each_in_turn (source_upstream o a w g) s srcs)
          (same_filters asked of_touched (sources_of g facts)
          (each_more (λ src. (of_touched src || calm g src) ≡ true) (λ src. asked src ≡ of_touched src)
          (λ src e. same_asked (of_touched src) (calm g src) e) (sources_of g facts) each_source)
          ∙ touched_sources_of (touching keys) (touching_is_closed keys) g facts)

      touched_turn : (s : State) → turn facts s g ≡ turn touched s g
      unfolding group_upstream
      touched_turn s = grind (arith, own_sources)

      -- a group with facts none of which is touched
      star_untouched : names g facts ≡ true → names g touched ≡ false → touching keys (star_key 0 g) ≡ false
      star_untouched there none = grind (arith, any_more, touching_is_closed, reads_star, any_in_filter)

      star_calm : names g facts ≡ true → touching keys (star_key 0 g) ≡ false → calm_star g ≡ true
      star_calm there out =
          any_among_all IsTaken (is_of_group g)
          (λ k is e. let group : group_in k ≡ g = eqb-true (group_in k) g e in
          second_left (touching keys (star_key 0 g)) (calm_star g)
          (subst (λ (h : ℕ). (touching keys (star_key 0 h) || calm_star h) ≡ true) group is.star) out)
          facts taken there

      nothing_there : names g facts ≡ true → names g touched ≡ false → (s : State) → turn touched s g ≡ (s, [])
      unfolding group_upstream with_join_timer each_in_turn
      nothing_there there none s = grind (arith, star_untouched, star_calm, no_sources)

      star_absent : names g facts ≡ false → star_told a w g (star_view o g) (star_view a g) ≡ nothing_told
      unfolding star_told star_view
      star_absent absent = grind (arith, names, or_parts, list_any-append, absent_is_undesired)

      absent_untold : names g facts ≡ false → (s : State) → turn facts s g ≡ (s, [])
      unfolding group_upstream with_join_timer each_in_turn
      absent_untold absent s = grind (arith, star_absent, no_sources)

      untouched_turn : (s : State) → names g touched ≡ false → turn facts s g ≡ (s, [])
      untouched_turn s none = grind (arith, names, touched_turn, nothing_there, absent_untold)

    -- ---- all turns

    -- the group of a touched fact is that of one of the keys
    named_by_key : (n : ℕ) → names n touched ≡ true → names n keys ≡ true
    unfolding touching reads
    named_by_key n e =
        any_among_all (λ q. (touching keys q && is_of_group n q) ≡ true → names n keys ≡ true)
        (λ q. touching keys q && is_of_group n q) (λ q f g. f g)
        facts
        (each_of_all _ (λ q f. any_more (reads q) (is_of_group n)
        (λ k g. ap (λ m. m == n) (eqb-true (group_in k) (group_in q) (first_so (group_in k == group_in q) _ g))
        ∙ second_so (touching keys q) (is_of_group n q) f) keys (first_so (touching keys q) (is_of_group n q) f)) facts)
        (sym (any_in_filter (touching keys) (is_of_group n) facts) ∙ e)

    abbrev is_told : ℕ → Bool
    is_told g = names g touched

    same_groups : (ks : List Key) → ((n : ℕ) → names n touched ≡ true → names n ks ≡ true)
        → filter is_told (groups_of ks) ≡ groups_of touched
    unfolding groups_of
    same_groups ks within = grind (arith, filtered_order, names, any_of_map, first_implies)

    own_turn : (s : State) (g : ℕ)
        → turn (filter (touching keys) (own_keys g o ++ own_keys g a)) s g ≡ turn touched s g
    unfolding group_upstream
    own_turn s g = grind (arith, own_touched)

    idle_turn : (s : State) (g : ℕ) → is_told g ≡ false → turn touched s g ≡ (s, [])
    idle_turn s g none = sym (touched_turn g s) ∙ untouched_turn g s none

    pub own_told : upstream o a w ≡ own_upstream keys o a w
    unfolding upstream own_upstream
    own_told =
        (λ j. each_in_turn (λ s g. touched_turn g s j) a (groups_of facts))
        ∙ turns_filtered (λ s g. turn touched s g) is_told idle_turn (groups_of facts) a
        ∙ ap (λ groups. each_in_turn (λ s g. turn touched s g) a groups)
        (same_groups facts (λ n. any_of_filter (touching keys) (is_of_group n) facts) ∙ sym (same_groups keys named_by_key))
        ∙ sym (turns_filtered (λ s g. turn touched s g) is_told idle_turn (groups_of keys) a)
        ∙ sym (λ j. each_in_turn (λ s g. own_turn s g j) a (groups_of keys))

-- ---- all that follows

-- what goes, and what is told then
pub settles_as : (keys : List Key) (o c : State) (messages : List Message) (w : ℕ)
    → clear o c ≡ touched_clear (touching keys) o (touched_registers (touching keys) c)
    → upstream o (clear o c).0 w ≡ own_upstream keys o (clear o c).0 w
    → settled o (c, messages) w ≡ own_settled keys o (c, messages) w
unfolding settled own_settled
settles_as keys o c messages w goes told = grind arith
