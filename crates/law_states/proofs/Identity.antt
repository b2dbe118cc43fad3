-- A reload in which each place stays at its number is the reload without a map.
use Rattle.std.{proofs.{Common.{◌≡◌, ◌<◌, ◌≤◌, ◌-◌, ⊎_elim, ◌∙◌, ℕ, min, Ok, List, [], ◌∷◌, ◌++◌, length, map, refl, sym, ap, subst, arith, append_assoc}, lemmas.{Bool.cases_lt, List.{append-nil, FromFn.length-range_with_len}}}, specs.{List.{AllByRecursion, Sorted.IsStrictlySortedBy, range_with_len}, Ordering.ordering_reverse, declared.cmp.Ordering.Ordering}}
use Rattle.pim_types.{specs.{Keys.{iface_in, key_cmp}, declared.{config.Config.Config, fact.{Key.Key, NeighbourRow.NeighbourRow}, outcome.{Emission.Emission}}}, proofs.Keys.key_cmp_total}
use Rattle.pim_model.{specs.{Firing.settled, Limits.config_test, State.{addressing_of, State, iface_count, settings_of}, Step.ran, Tables.{Table, below, drop_where, is_among, keys_in, put}}}
use Rattle.law_settled.{specs.Ready.{IsOrdered, Rises}}
use Rattle.law_events.{specs.Rest.IsAtRest}
use Rattle.law_states.{specs.{Reload.{config_of, reconfigured, reloaded}, Reloading.{down_event, goodbyes, reload, removals, replaced, sent_by}, PlacedLaws.IdentityPlacesAreReload, Placing.{each_to_itself, gone_on, in_order, placed_key, index_of, kept_places, leaving_on, moved, number_at, placed, placed_under, put_placed, reload_by, resubnetted, without_neighbours}}, proofs.{Reloads.same_configuration_changes_nothing, Ground.reload_is_under, Rest.reload_leaves_rest, Numbers.{count_is, in_own_order, kept_are, new_is, number_below, old_is, to_is}}}

-- ---- rows that stay at their places

greater : (q k : Key) → key_cmp q k ≡ Ordering.Less → key_cmp k q ≡ Ordering.Greater
greater q k less = key_cmp_total.antisymm k q ∙ ap ordering_reverse less

module _ {R : Type 0} where
  put_behind : (t : Table R) (k : Key) (row : R) → AllByRecursion (λ q. key_cmp q k ≡ Ordering.Less) (keys_in t)
      → put t k row ≡ t ++ (k, row) ∷ []
  unfolding put keys_in
  put_behind [] k row h = refl
  put_behind (e ∷ t) k row h = rw (greater e.0 k h.0, put_behind t k row h.1) refl

  at_place : (P : Key → Type 0) (front : Table R) (e : Key × R) (rest : Table R)
      → AllByRecursion P (keys_in (front ++ e ∷ rest)) → P e.0
  unfolding keys_in
  at_place P [] e rest h = h.0
  at_place P (x ∷ front) e rest h = at_place P front e rest h.1

  before : (front : Table R) (e : Key × R) (rest : Table R) → IsStrictlySortedBy key_cmp (keys_in (front ++ e ∷ rest))
      → AllByRecursion (λ q. key_cmp q e.0 ≡ Ordering.Less) (keys_in front)
  unfolding keys_in IsStrictlySortedBy
  before [] e rest h = tt
  before (x ∷ front) e rest h = (at_place (λ q. key_cmp x.0 q ≡ Ordering.Less) front e rest h.0, before front e rest h.1)

in_own_place : (k : ℕ) (q : Key) → placed_key (below k) q ≡ q
in_own_place k q = λ j. record q { iface = record { number = number_below k (iface_in q) j } }

module _ {R : Type 0} (k : ℕ) where
  goes_on : (front rest : Table R) → IsStrictlySortedBy key_cmp (keys_in (front ++ rest))
      → put_placed (below k) front rest ≡ front ++ rest
  goes_on front [] h = sym (append-nil front)
  goes_on front (e ∷ rest) h =
      let one : put front e.0 e.1 ≡ front ++ e ∷ [] = put_behind front e.0 e.1 (before front e rest h) in
      let joined : (front ++ e ∷ []) ++ rest ≡ front ++ e ∷ rest = append_assoc front (e ∷ []) rest in
      ap (λ (q : Key). put_placed (below k) (put front q e.1) rest) (in_own_place k e.0)
      ∙ ap (λ (t : Table R). put_placed (below k) t rest) one
      ∙ goes_on (front ++ e ∷ []) rest (subst (λ (t : Table R). IsStrictlySortedBy key_cmp (keys_in t)) (sym joined) h)
      ∙ joined

  stays : (rows : Table R) → Rises rows → placed (below k) rows ≡ rows
  stays rows h = goes_on [] rows h

-- ---- a state that stays

placed_same : (s : State) (k : ℕ) → IsOrdered s → placed_under s (below k) (config_of s) ≡ s
unfolding placed_under config_of settings_of
placed_same s k h = λ j. record s {
  interfaces = stays k s.interfaces h.interfaces j;
  neighbours = stays k s.neighbours h.neighbours j;
  queriers = stays k s.queriers h.queriers j;
  group_records = stays k s.group_records h.group_records j;
  source_records = stays k s.source_records h.source_records j;
  group_repeats = stays k s.group_repeats h.group_repeats j;
  source_repeats = stays k s.source_repeats h.source_repeats j;
  sendings = stays k s.sendings h.sendings j;
  downstream = stays k s.downstream h.downstream j;
  asserts = stays k s.asserts h.asserts j;
}

none_dropped : (t : Table NeighbourRow) → drop_where (λ q. is_among (iface_in q) []) t ≡ t
unfolding drop_where is_among
none_dropped [] = refl
none_dropped (e ∷ t) = ap (λ (r : Table NeighbourRow). e ∷ r) (none_dropped t)

none_apart : (s : State) → without_neighbours [] s ≡ s
unfolding without_neighbours
none_apart s = λ j. record s { neighbours = none_dropped s.neighbours j }

settled_again : (t : State) (v : ℕ) → IsAtRest t → settled t (t, []) v ≡ (t, [])
unfolding reloaded reconfigured config_of settings_of
settled_again t v f = same_configuration_changes_nothing t v f

moved_same : (s : State) (k w : ℕ) → IsAtRest s → moved s (below k) (config_of s) [] w ≡ (s, [])
unfolding moved
moved_same s k w h =
    (λ j. settled (placed_same s k h.settled.ordered j) (without_neighbours [] (placed_same s k h.settled.ordered j), []) w)
    ∙ ap (λ (t : State). settled s (t, []) w) (none_apart s)
    ∙ settled_again s w h

-- ---- the whole reload

leaves_same : (k : ℕ) (sent : List Emission) → map (leaving_on (number_at (below k))) sent ≡ sent
leaves_same k [] = refl
leaves_same k (Emission.Link i bytes ∷ sent) =
    λ j. Emission.Link (record { number = number_below k i.number j }) bytes ∷ leaves_same k sent j
leaves_same k (Emission.Unicast destination bytes ∷ sent) =
    λ j. Emission.Unicast destination bytes ∷ leaves_same k sent j

same_range : (a b : ℕ) → range_with_len (min a b) (a - min a b) ≡ range_with_len b (a - b)
same_range a b = ⊎_elim (λ (low : a < b). few low) (λ (high : b ≤ a). many high) (cases_lt a b)
  where
    few : a < b → range_with_len (min a b) (a - min a b) ≡ range_with_len b (a - b)
    few low =
        let one : a - min a b ≡ 0 = omega (arith, low) in
        let two : 0 ≡ a - b = omega (arith, low) in
        ap (range_with_len (min a b)) one ∙ ap (range_with_len b) two

    many : b ≤ a → range_with_len (min a b) (a - min a b) ≡ range_with_len b (a - b)
    many high =
        let least : min a b ≡ b = omega (arith, high) in
        ap (λ (x : ℕ). range_with_len x (a - x)) least

module _ (s : State) (c : Config) (w : ℕ) where
  abbrev k : ℕ
  k = iface_count s

  abbrev n : ℕ
  n = length c.interfaces

  gone_same : gone_on s (min k n) k c w ≡ reload s c w
  unfolding gone_on reload removals
  gone_same =
      λ j. (
        (replaced (ran s (map (down_event w) (ranges j))).1 c w).0,
        sent_by (ran s (map (down_event w) (ranges j))).0
            ++ (goodbyes (ran s (map (down_event w) (ranges j))).1 (addressing_of c)
            ++ (replaced (ran s (map (down_event w) (ranges j))).1 c w).1),
      )
    where
      ranges : range_with_len (min k n) (k - min k n) ≡ range_with_len n (k - n)
      ranges = same_range k n

  abbrev finished : List ℕ → List ℕ → State × List Emission → State × List Emission → State × List Emission → State × List Emission
  finished old order first next last = (
    last.0,
    map (leaving_on (number_at old)) ((first.1 ++ next.1) ++ map (leaving_on (index_of order)) last.1),
  )

  -- a reload by orders
  abbrev by_orders : ℕ → ℕ → List ℕ → List ℕ → List ℕ → State × List Emission
  by_orders kept count old to order =
      let before : Config = in_order old (config_of s) in
      let new : Config = in_order order c in
      let first : State × List Emission = moved s to before (resubnetted kept before.interfaces new.interfaces) w in
      let next : State × List Emission = gone_on first.0 kept count new w in
      finished old order first next (moved next.0 order c [] w)

  orders_are : reload_by s (each_to_itself k n) c w ≡ by_orders (min k n) k (below k) (below k) (below n)
  unfolding reload_by
  orders_are =
      λ j. by_orders (kept j) (count_is k n j) (old_is k n j) (to_is k n j) (new_is k n j)
    where
      kept : length (kept_places (each_to_itself k n)) ≡ min k n
      kept = ap (λ (l : List ℕ). length l) (kept_are k n) ∙ length-range_with_len 0 (min k n)

  module _ (accepted : config_test c ≡ Ok tt) (kept : resubnetted (min k n) s.configured.interfaces c.interfaces ≡ []) (rest : IsAtRest s) where
    old_same : in_order (below k) (config_of s) ≡ config_of s
    unfolding config_of
    old_same = in_own_order (config_of s)

    new_same : in_order (below n) c ≡ c
    new_same = in_own_order c

    subnets_kept : resubnetted (min k n) (config_of s).interfaces c.interfaces ≡ []
    unfolding config_of
    subnets_kept = kept

    first_same : moved s (below k) (config_of s) (resubnetted (min k n) (config_of s).interfaces c.interfaces) w ≡ (s, [])
    first_same = ap (λ (l : List ℕ). moved s (below k) (config_of s) l w) subnets_kept ∙ moved_same s k w rest

    last_same : (t : State) → config_of t ≡ c → IsAtRest t → moved t (below n) c [] w ≡ (t, [])
    last_same t is f =
        ap (λ (d : Config). moved t (below n) d [] w) (sym is) ∙ moved_same t n w f

    ends : finished (below k) (below n) (s, []) (reload s c w) ((reload s c w).0, []) ≡ reload s c w
    ends = λ j. ((reload s c w).0, (ap (map (leaving_on (number_at (below k)))) (append-nil (reload s c w).1) ∙ leaves_same k (reload s c w).1) j)

    same_orders : by_orders (min k n) k (below k) (below k) (below n) ≡ reload s c w
    same_orders =
        (λ j. with_configs (old_same j) (new_same j))
        ∙ (λ j. with_first (first_same j))
        ∙ ap with_next gone_same
        ∙ ap (finished (below k) (below n) (s, []) (reload s c w))
        (last_same (reload s c w).0 (reload_is_under s c w) (reload_leaves_rest s c w accepted rest))
        ∙ ends
      where
        with_next : State × List Emission → State × List Emission
        with_next next = finished (below k) (below n) (s, []) next (moved next.0 (below n) c [] w)

        with_first : State × List Emission → State × List Emission
        with_first first =
            let next : State × List Emission = gone_on first.0 (min k n) k c w in
            finished (below k) (below n) first next (moved next.0 (below n) c [] w)

        with_configs : Config → Config → State × List Emission
        with_configs before new =
            let first : State × List Emission = moved s (below k) before (resubnetted (min k n) before.interfaces new.interfaces) w in
            let next : State × List Emission = gone_on first.0 (min k n) k new w in
            finished (below k) (below n) first next (moved next.0 (below n) c [] w)

pub identity_places_are_reload : IdentityPlacesAreReload
identity_places_are_reload s c w accepted kept rest = orders_are s c w ∙ same_orders s c w accepted kept rest
