-- The sources of a group are named by the rows of the group; groups put in order twice; the opening is quiet.
use Rattle.std.{proofs.{Common.{◌≡◌, ◌==◌, ◌&&◌, ℕ, Bool, true, false, cond, List, [], ◌∷◌, ◌++◌, map, Option, Some, is_some, refl, sym, ap, ◌∙◌, eqb-true, arith}, lemmas.List.Elements.filter-append}, specs.{Cmp.{first_so, second_so}, List.{filter, AllByRecursion, list_any, Sorted.IsStrictlySortedBy}, Map.lookup, BTreeMap.is_at, declared.cmp.Ordering.TheVariants.Less}}
use Rattle.pim_types.{specs.{declared.{fact.{SourceRow.SourceRow, Key.Key}, config.Config.Config}, Keys.{is_of_group, key_cmp, same_key, source_in, group_in}}, proofs.Keys.key_cmp_total}
use Rattle.pim_model.{specs.{State.{State, opening}, Tables.{Table, ascending, has_row, keys_in, row_at, rows_where}, Messages.Message, Querier.each_in_turn, Upstream.{fact_keys, group_upstream, groups_of, sources_of, upstream}}}
use Rattle.law_settled.{proofs.{AbsentGroups.names, TableLaws.{any_in_filter, any_of_map}, ListLaws.{any_more, either}}}
use Rattle.law_events.{specs.{Locality.{AgreesBut, AreOnce, IsQuiet, touching, own_keys, facts_of_both, own_upstream, touched_upstream}, Scopes.{scope, reads}}, proofs.{Turns.turns_filtered, Touches.touching_is_closed, TouchedUpstream.{upstream_of_touched, touched_turn, untouched_turn, filtered_order, first_implies}}}

module _ {X : Type 0} (p q : X → Bool) where
  swap_step : (x : X) (xs : List X) (b c : Bool) → p x ≡ b → q x ≡ c → filter p (filter q xs) ≡ filter q (filter p xs)
      → filter p (cond c (x ∷ filter q xs) (filter q xs)) ≡ filter q (cond b (x ∷ filter p xs) (filter p xs))
  swap_step x xs b c e f ih = grind arith

  pub filters_swap : (xs : List X) → filter p (filter q xs) ≡ filter q (filter p xs)
  filters_swap [] = refl
  filters_swap (x ∷ xs) = swap_step x xs (p x) (q x) refl refl (filters_swap xs)

module _ (g : ℕ) where
  abbrev is_source : Key → Bool
  is_source k = is_of_group g k && is_some k.source

  row_step : {R : Type 0} (x : Key × R) (xs : Table R) (b c : Bool) → is_of_group g x.0 ≡ b → is_some (x.0).source ≡ c
      → filter is_source (keys_in (rows_where (is_of_group g) xs)) ≡ filter is_source (keys_in xs)
      → filter is_source (keys_in (cond b (x ∷ rows_where (is_of_group g) xs) (rows_where (is_of_group g) xs)))
      ≡ cond (b && c) (x.0 ∷ filter is_source (keys_in xs)) (filter is_source (keys_in xs))
  unfolding keys_in
  row_step x xs b c e f ih = grind arith

  own_rows : {R : Type 0} (t : Table R)
      → filter is_source (keys_in (rows_where (is_of_group g) t)) ≡ filter is_source (keys_in t)
  unfolding keys_in rows_where
  own_rows [] = refl
  own_rows (x ∷ xs) = row_step x xs (is_of_group g x.0) (is_some (x.0).source) refl refl (own_rows xs)

  joined : (a b c d : List Key) → filter is_source a ≡ filter is_source b → filter is_source c ≡ filter is_source d
      → filter is_source (a ++ c) ≡ filter is_source (b ++ d)
  joined a b c d e f = grind (arith, filter-append)

  own_facts : (s : State) → filter is_source (own_keys g s) ≡ filter is_source (fact_keys s)
  unfolding own_keys fact_keys
  own_facts s =
      joined _ _ _ _ (joined _ _ _ _ (joined _ _ _ _ (joined _ _ _ _ (joined _ _ _ _
      (joined _ _ _ _ (joined _ _ _ _ (joined _ _ _ _ (joined _ _ _ _ (joined _ _ _ _
      (own_rows s.group_records) (own_rows s.source_records)) (own_rows s.group_repeats)) (own_rows s.source_repeats))
      (own_rows s.sendings))
      (own_rows s.downstream)) (own_rows s.asserts)) (own_rows s.join_timers)) (own_rows s.override_timers))
      (own_rows s.sources)) (own_rows s.registers)

  -- the sources of a group in two states
  own_of_both : (o a : State) → filter is_source (own_keys g o ++ own_keys g a) ≡ filter is_source
      (fact_keys o ++ fact_keys a)
  own_of_both o a = joined (own_keys g o) (fact_keys o) (own_keys g a) (fact_keys a) (own_facts o) (own_facts a)

  pub own_sources : (o a : State)
      → sources_of g (own_keys g o ++ own_keys g a) ≡ sources_of g (fact_keys o ++ fact_keys a)
  unfolding sources_of
  own_sources o a = ap (λ ks. ascending (map source_in ks)) (own_of_both o a)

  -- those that pass a test
  pub own_touched : (touches : Key → Bool) (o a : State)
      → sources_of g (filter touches (own_keys g o ++ own_keys g a)) ≡ sources_of g
      (filter touches (fact_keys o ++ fact_keys a))
  unfolding sources_of
  own_touched touches o a = grind (arith, filters_swap, own_of_both)

pub opening_is_quiet : (c : Config) → IsQuiet (opening c)
unfolding opening
opening_is_quiet c = grind arith

-- time alone changes nothing
pub present_touches_none : (s : State) (m : ℕ) → AgreesBut (touching []) s (record s { present = m })
unfolding scope
present_touches_none s m h e = refl

-- ---- in tables whose keys rise each key is listed once

-- what is above a key is above each one below it
pub all_later : (k q : Key) (ks : List Key) → key_cmp k q ≡ Less → AllByRecursion (λ y. key_cmp q y ≡ Less) ks
    → AllByRecursion (λ y. key_cmp k y ≡ Less) ks
all_later k q [] e all = tt
all_later k q (y ∷ ks) e all = (key_cmp_total.trans k q y e all.0, all_later k q ks e all.1)

module _ {R : Type 0} where
  below_step : (k q : Key) (r : R) (o : Option R) → key_cmp k q ≡ Less → is_some o ≡ false
      → is_some (cond (same_key k q) (Some r) o) ≡ false
  below_step k q r o e f = cc

  pub none_below : (k : Key) (t : Table R) → AllByRecursion (λ y. key_cmp k y ≡ Less) (keys_in t) → has_row t k ≡ false
  unfolding keys_in has_row row_at
  none_below k [] all = refl
  none_below k (x ∷ xs) all = below_step k x.0 x.1 (lookup (is_at (key_cmp k)) xs) all.0 (none_below k xs all.1)

  pub once_where_sorted : (t : Table R) → IsStrictlySortedBy key_cmp (keys_in t) → AreOnce t
  unfolding keys_in IsStrictlySortedBy
  once_where_sorted [] rises = tt
  once_where_sorted (x ∷ xs) rises = (none_below x.0 xs rises.0, once_where_sorted xs rises.1)

pub sources_once : (t : Table SourceRow) → IsStrictlySortedBy key_cmp (keys_in t) → AreOnce t
sources_once t rises = once_where_sorted t rises

-- ---- what is sent upstream by the keys of each group's own facts

module _ (touches : Key → Bool) (o a : State) (w : ℕ) where
  own_turn : (s : State) (g : ℕ)
      → group_upstream o a w (filter touches (own_keys g o ++ own_keys g a)) s g
      ≡ group_upstream o a w (filter touches (fact_keys o ++ fact_keys a)) s g
  unfolding group_upstream
  own_turn s g = grind (arith, own_touched)

module _ (keys : List Key) (o a : State) (w : ℕ) (agree : AgreesBut (touching keys) o a) where
  abbrev touched : List Key
  touched = filter (touching keys) (facts_of_both o a)

  abbrev turn : State → ℕ → State × List Message
  turn s g = group_upstream o a w touched s g

  -- the group of a key that is touched is that of one of the keys
  named_by : (n : ℕ) → names n touched ≡ true → names n keys ≡ true
  unfolding touching reads
  named_by n e =
      none_other (names n keys) (λ q. touching keys q && is_of_group n q)
      (λ q f. any_more (reads q) (is_of_group n)
      (λ c g. ap (λ m. m == n) (eqb-true (group_in c) (group_in q) (first_so (group_in c == group_in q) _ g))
      ∙ second_so (touching keys q) (is_of_group n q) f) keys (first_so (touching keys q) (is_of_group n q) f))
      (facts_of_both o a) (sym (any_in_filter (touching keys) (is_of_group n) (facts_of_both o a)) ∙ e)
    where
      none_other : (b : Bool) (p : Key → Bool) → ((q : Key) → p q ≡ true → b ≡ true) → (ks : List Key)
          → list_any p ks ≡ true → b ≡ true
      none_other b p f [] g = cc
      none_other b p f (q ∷ qs) g = either (p q) (list_any p qs) (f q) (none_other b p f qs) g

  same_groups : filter (λ g. names g touched) (groups_of keys) ≡ groups_of touched
  unfolding groups_of
  same_groups =
      filtered_order (λ g. names g touched) (map group_in keys) (map group_in touched)
      (λ n. ap (λ b. names n touched && b) (any_of_map (λ m. m == n) group_in keys)
      ∙ (first_implies (names n touched) (names n keys) (named_by n) ∙ sym (any_of_map (λ m. m == n) group_in touched)))

  idle : (s : State) (g : ℕ) → names g touched ≡ false → turn s g ≡ (s, [])
  idle s g none =
      sym (touched_turn (touching keys) (touching_is_closed keys) o a w agree (facts_of_both o a) s g)
      ∙ untouched_turn (touching keys) (touching_is_closed keys) o a w agree s g none

  upstream_of_keys : upstream o a w ≡ each_in_turn turn a (groups_of keys)
  unfolding touched_upstream
  upstream_of_keys =
      upstream_of_touched (touching keys) (touching_is_closed keys) o a w agree
      ∙ sym (turns_filtered turn (λ g. names g touched) idle (groups_of keys) a
      ∙ ap (λ groups. each_in_turn turn a groups) same_groups)

  pub upstream_of_own : upstream o a w ≡ own_upstream keys o a w
  unfolding own_upstream facts_of_both
  upstream_of_own = grind (arith, upstream_of_keys, own_turn)

pub upstream_is_own : (keys : List Key) (o a : State) (w : ℕ) → AgreesBut (touching keys) o a
    → upstream o a w ≡ own_upstream keys o a w
upstream_is_own keys o a w agree = upstream_of_own keys o a w agree
