-- The touched sources of which something is told: those that have a fact before or after.
use Rattle.std.{proofs.{Common.{◌≡◌, ◌==◌, ◌||◌, ◌&&◌, ℕ, Bool, true, false, List, [], ◌∷◌, ◌++◌, map, Option, Some, None, is_some, refl, sym, ap, arith, ◌∙◌}, lemmas.{Bool.true≢false, Grind.common_steps, List.Folds.list_any-append}}, specs.{List.{filter, list_any}, Option.option_map_or, Prelude.if◌then◌else◌, Cmp.{first_so, second_so}}}
use Rattle.pim_ip.{specs.declared.addr.Addr.Addr}
use Rattle.pim_types.{specs.{declared.fact.Key.Key, Keys.{group_in, is_of_group, names_source, source_in}}}
use Rattle.pim_model.{specs.{State.State, Upstream.{fact_keys, sources_of}}}
use Rattle.law_settled.{proofs.{Numbers.{RisesFrom, any_ascending, rises_ascending, rises_filtered, same_numbers}, TableLaws.{any_in_filter, any_of_map}}}
use Rattle.law_events.{specs.{Locality.touching, Scopes.reads}}
use Rattle.pim_state.{specs.declared.touched.Touched.Touched}
use Rattle.pim_views.{specs.{Openings.{facts_of_whole, has_facts, is_of_all, touched_sources}, Covers.NewAreNamed}}

-- ---- one number among the sources of keys

module _ (g : ℕ) where
  abbrev is_source_of : Key → Bool
  is_source_of k = is_of_group g k && is_some k.source

  named_so : (n : ℕ) (ks : List Key)
      → list_any (λ k. is_source_of k && (source_in k == n)) ks ≡ list_any (names_source g n) ks
  unfolding names_source
  named_so n [] = refl
  named_so n (k ∷ ks) = ap (λ b. (is_source_of k && (source_in k == n)) || b) (named_so n ks)

  pub any_source : (n : ℕ) (ks : List Key) → list_any (λ m. m == n) (sources_of g ks) ≡ list_any (names_source g n) ks
  unfolding sources_of
  any_source n ks =
      any_ascending (λ m. m == n) (map source_in (filter is_source_of ks))
      ∙ any_of_map (λ m. m == n) source_in (filter is_source_of ks)
      ∙ any_in_filter is_source_of (λ k. source_in k == n) ks
      ∙ named_so n ks

  pub rises : (ks : List Key) → RisesFrom 0 (sources_of g ks)
  unfolding sources_of
  rises ks = rises_ascending (map source_in (filter is_source_of ks))

  -- ---- the keys that touch a source

  abbrev is_at : ℕ → Key → Bool
  is_at n q = is_of_all g q || names_source g n q

  at_key : (n : ℕ) (o : Option Addr) (b : Bool)
      → (b && ((option_map_or (λ (a : Addr). a.bits) o 0 == 0) || (option_map_or (λ (a : Addr). a.bits) o 0 == n)))
      ≡ ((b && (option_map_or (λ (a : Addr). a.bits) o 0 == 0))
      || (b && is_some o && (option_map_or (λ (a : Addr). a.bits) o 0 == n)))
  at_key n None true = refl
  at_key n None false = refl
  at_key n (Some a) true = refl
  at_key n (Some a) false = refl

  same_number : (m n : ℕ) → (m == n) ≡ true → m ≡ n
  same_number m n e = grind (arith, common_steps, e)

  reads_at : (n : ℕ) (k q : Key) → names_source g n k ≡ true → reads k q ≡ is_at n q
  unfolding reads names_source
  reads_at n k q named =
      let group : group_in k ≡ g =
      same_number (group_in k) g (first_so (is_of_group g k) (is_some k.source)
      (first_so (is_of_group g k && is_some k.source) (source_in k == n) named)) in
      let source : source_in k ≡ n =
      same_number (source_in k) n (second_so (is_of_group g k && is_some k.source) (source_in k == n) named) in
      (λ i. (group_in q == group i) && ((source_in q == 0) || (source_in q == source i)))
      ∙ at_key n q.source (is_of_group g q)

  touched_at : (n : ℕ) (k : Key) (keys : List Key) → names_source g n k ≡ true
      → list_any (reads k) keys ≡ list_any (is_at n) keys
  touched_at n k [] named = refl
  touched_at n k (q ∷ keys) named = (λ i. reads_at n k q named i || touched_at n k keys named i)

  four : (a b c d e : Bool) → c ≡ (d || e) → ((a || b) || c) ≡ ((a || d) || (b || e))
  four true b c d e f = refl
  four false true c true e f = refl
  four false true c false e f = refl
  four false false c d e f = f

  either : (n : ℕ) (keys : List Key)
      → list_any (is_at n) keys ≡ (list_any (is_of_all g) keys || list_any (names_source g n) keys)
  either n [] = refl
  either n (q ∷ keys) =
      four (is_of_all g q) (names_source g n q) (list_any (is_at n) keys) (list_any (is_of_all g) keys)
      (list_any (names_source g n) keys) (either n keys)

  step : (t a n x : Bool) → (n ≡ true → t ≡ a) → ((t && n) || (a && x)) ≡ (a && (n || x))
  step true true true x e = refl
  step true false true x e = absurd (true≢false (e refl))
  step false true true x e = absurd (true≢false (sym (e refl)))
  step false false true x e = refl
  step true a false x e = refl
  step false a false x e = refl

  none_of : (a : Bool) → false ≡ (a && false)
  none_of true = refl
  none_of false = refl

  only_touched : (n : ℕ) (keys ks : List Key)
      → list_any (λ k. touching keys k && names_source g n k) ks
      ≡ (list_any (is_at n) keys && list_any (names_source g n) ks)
  unfolding touching
  only_touched n keys [] = none_of (list_any (is_at n) keys)
  only_touched n keys (k ∷ ks) =
      ap (λ b. (list_any (reads k) keys && names_source g n k) || b) (only_touched n keys ks)
      ∙ step (list_any (reads k) keys) (list_any (is_at n) keys) (names_source g n k) (list_any (names_source g n) ks)
      (touched_at n k keys)

  -- ---- those that pass a test

  at_number : (told : ℕ → Bool) (n : ℕ) (ms : List ℕ)
      → list_any (λ m. told m && (m == n)) ms ≡ (told n && list_any (λ m. m == n) ms)
  at_number told n [] = none_of (told n)
  at_number told n (m ∷ ms) =
      ap (λ b. (told m && (m == n)) || b) (at_number told n ms)
      ∙ step (told m) (told n) (m == n) (list_any (λ m. m == n) ms) (λ e. ap told (same_number m n e))

  among_told : (told : ℕ → Bool) (n : ℕ) (ks : List Key)
      → list_any (λ m. m == n) (filter told (sources_of g ks)) ≡ (told n && list_any (names_source g n) ks)
  among_told told n ks =
      any_in_filter told (λ m. m == n) (sources_of g ks) ∙ at_number told n (sources_of g ks)
      ∙ ap (λ b. told n && b) (any_source n ks)

  of_whole : (n : ℕ) (o : State) (keys : List Key) (b : Bool)
      → list_any (names_source g n) (if b then fact_keys o else []) ≡ (b && has_facts o g n)
  of_whole n o keys true = refl
  of_whole n o keys false = refl

  bools : (whole n f a : Bool) → (a ≡ true → (f || n) ≡ true)
      → ((whole || n) && (f || a)) ≡ ((f || a) && ((whole && f) || n))
  bools true n true a e = refl
  bools false true true a e = refl
  bools false false true a e = refl
  bools true true false true e = refl
  bools true false false true e = absurd (true≢false (sym (e refl)))
  bools false true false true e = refl
  bools false false false true e = refl
  bools true n false false e = refl
  bools false true false false e = refl
  bools false false false false e = refl

  all_bools : (f a : Bool) → (a ≡ true → f ≡ true) → (f || a) ≡ ((f || a) && f)
  all_bools true a e = refl
  all_bools false true e = absurd (true≢false (sym (e refl)))
  all_bools false false e = refl

  module _ (o a : State) where
    abbrev pub is_told : ℕ → Bool
    is_told n = has_facts o g n || has_facts a g n

    pub told_of_keys : (keys : List Key) → NewAreNamed keys o a
        → sources_of g (filter (touching keys) (fact_keys o ++ fact_keys a))
        ≡ filter is_told (touched_sources o (Touched.Keys keys) g)
    unfolding touched_sources
    told_of_keys keys new =
        let opened : List ℕ = sources_of g (facts_of_whole o keys g ++ keys) in
        same_numbers 0 0 (sources_of g (filter (touching keys) (fact_keys o ++ fact_keys a))) (filter is_told opened)
        (rises (filter (touching keys) (fact_keys o ++ fact_keys a)))
        (rises_filtered is_told 0 opened (rises (facts_of_whole o keys g ++ keys)))
        (λ n. any_source n (filter (touching keys) (fact_keys o ++ fact_keys a))
        ∙ any_in_filter (touching keys) (names_source g n) (fact_keys o ++ fact_keys a)
        ∙ only_touched n keys (fact_keys o ++ fact_keys a)
        ∙ (λ i. either n keys i && list_any-append (names_source g n) (fact_keys o) (fact_keys a) i)
        ∙ bools (list_any (is_of_all g) keys) (list_any (names_source g n) keys) (has_facts o g n) (has_facts a g n)
        (new g n)
        ∙ sym (among_told is_told n (facts_of_whole o keys g ++ keys)
        ∙ ap (λ b. is_told n && b) (list_any-append (names_source g n) (facts_of_whole o keys g) keys
        ∙ ap (λ b. b || list_any (names_source g n) keys) (of_whole n o keys (list_any (is_of_all g) keys)))))

    pub told_of_all : ((n : ℕ) → has_facts a g n ≡ true → has_facts o g n ≡ true)
        → sources_of g (fact_keys o ++ fact_keys a) ≡ filter is_told (touched_sources o Touched.All g)
    unfolding touched_sources
    told_of_all within =
        let before : List ℕ = sources_of g (fact_keys o) in
        same_numbers 0 0 (sources_of g (fact_keys o ++ fact_keys a)) (filter is_told before)
        (rises (fact_keys o ++ fact_keys a)) (rises_filtered is_told 0 before (rises (fact_keys o)))
        (λ n. any_source n (fact_keys o ++ fact_keys a)
        ∙ list_any-append (names_source g n) (fact_keys o) (fact_keys a)
        ∙ all_bools (has_facts o g n) (has_facts a g n) (within n)
        ∙ sym (among_told is_told n (fact_keys o)))
