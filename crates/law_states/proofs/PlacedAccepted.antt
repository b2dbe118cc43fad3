-- A configuration in an order of its interfaces is accepted as it was.
use Rattle.std.{proofs.{Common.{◌≡◌, ◌&&◌, ◌||◌, ◌==◌, ◌∙◌, ℕ, zero, suc, Bool, true, false, not, cond, List, [], ◌∷◌, ◌++◌, filter, map, length, nat_lt, nat_le, Option, Some, None, Ok, refl, sym, ap, subst, arith, eqb-true}, lemmas.{Bool.Decides.nat_tests, List.{length-map, Folds.list_any-append}}}, specs.{List.{cons_option, list_all, list_any, slice_get}, Option.option_map_or}}
use Rattle.pim_ip.{specs.{Ipv4.is_unicast, Prefixes.contains, Tests.{expect, ◌>>◌}, declared.{addr.{Addr.Addr, Prefix.Prefix}, refusal.Refusal.Refusal}}}
use Rattle.pim_types.{specs.declared.config.{Config.Config, InterfaceConfig.InterfaceConfig, Route.Route}}
use Rattle.pim_model.{specs.{Limits.{are_apart, are_distinct, are_own_addresses, are_routes, are_rps, config_test, is_apart, is_between, is_delay_config, is_in_subnet, is_prefix, is_querier_config, is_route, most_ifaces, overlaps}, State.{Addressing, addressing_of, iface_count, is_own_among}, Tables.{below, is_among}, Unicast.subnet}}
use Rattle.law_settled.{proofs.ListLaws.{all_more, each_more, each_passes}}
use Rattle.law_states.{specs.{Reload.config_of, PlacedLaws.OrdersAreAccepted, Placing.{Places, are_once, in_order, index_from, index_of, interfaces_at, is_kept, is_left_out, is_new, kept_places, new_order, old_order, route_in_order}}, proofs.{Apart.{filtered_once, joined_once, new_count, new_once, old_count}, Orders.{all_found, each_among, from_zero, in_range, index_low, new_low, old_low, passes_there}, Ups.{as_many, each_low, each_once}}}

both : (a b : Bool) → a ≡ true → b ≡ true → (a && b) ≡ true
both true b f g = g
both false b f g = cc

first : (a b : Bool) → (a && b) ≡ true → a ≡ true
first true b e = refl
first false b e = cc

second : (a b : Bool) → (a && b) ≡ true → b ≡ true
second true b e = e
second false b e = cc

isnt : (b : Bool) → not b ≡ true → b ≡ false
isnt true e = cc
isnt false e = refl

neither : (a b : Bool) → (a || b) ≡ false → (a ≡ false) × (b ≡ false)
neither true b e = cc
neither false b e = (refl, e)

swapped : (a b : Bool) → (a || b) ≡ (b || a)
swapped true true = refl
swapped true false = refl
swapped false true = refl
swapped false false = refl

-- ---- each number below a count, once

record IsOrderOf (order : List ℕ) (count : ℕ) : Type 0 where
  low : list_all (λ i. nat_lt i count) order ≡ true
  once : are_once order ≡ true
  all : (n : ℕ) → nat_lt n count ≡ true → list_any (λ m. m == n) order ≡ true
  many : length order ≡ count

-- the numbers that don't pass are none of those that pass
none_of_rest : (p : ℕ → Bool) (x : ℕ) → p x ≡ true → (ys : List ℕ)
    → list_any (λ y. y == x) (filter (λ i. not (p i)) ys) ≡ false
none_of_rest p x passes [] = refl
none_of_rest p x passes (y ∷ ys) = by (p y) refl (none_of_rest p x passes ys)
  where
    other : p y ≡ false → (y == x) ≡ false
    other fails = go (y == x) refl
      where
        go : (b : Bool) → (y == x) ≡ b → b ≡ false
        go true e = absurd (cc (sym passes ∙ ap p (sym (eqb-true y x e)) ∙ fails))
        go false e = refl

    by : (b : Bool) → p y ≡ b → list_any (λ z. z == x) (filter (λ i. not (p i)) ys) ≡ false
        → list_any (λ z. z == x) (cond (not b) (y ∷ filter (λ i. not (p i)) ys) (filter (λ i. not (p i)) ys)) ≡ false
    by true e later = later
    by false e later =
        ap (λ (b : Bool). b || list_any (λ z. z == x) (filter (λ i. not (p i)) ys)) (other e) ∙ later

old_is_order : (m : Places) → IsOrderOf (old_order m) (length m)
unfolding old_order is_left_out
old_is_order m = record {
  low = old_low m;
  once = joined_once (filter (is_kept m) (below (length m))) (filter (λ i. not (is_kept m i)) (below (length m)))
      (filtered_once (is_kept m) (length m) 0) (filtered_once (λ i. not (is_kept m i)) (length m) 0)
      (each_more (λ x. is_kept m x ≡ true) (λ x. list_any (λ y. y == x) (filter (λ i. not (is_kept m i)) (below (length m))) ≡ false)
      (λ x passes. none_of_rest (is_kept m) x passes (below (length m))) (filter (is_kept m) (below (length m)))
      (each_passes (is_kept m) (below (length m))));
  all = each_among m;
  many = old_count m;
}

new_among : (kept : List ℕ) (n j : ℕ) → nat_lt j n ≡ true
    → list_any (λ x. x == j) (kept ++ filter (is_new kept) (below n)) ≡ true
unfolding is_new is_among
new_among kept n j less =
    list_any-append (λ x. x == j) kept (filter (λ i. not (list_any (λ y. y == i) kept)) (below n))
    ∙ by (list_any (λ x. x == j) kept) refl
  where
    there : list_any (λ x. x == j) (below n) ≡ true
    there = ap (λ (a : ℕ). list_any (λ x. x == a) (below n)) (from_zero j) ∙ in_range j n 0 less

    by : (b : Bool) → list_any (λ x. x == j) kept ≡ b
        → (b || list_any (λ x. x == j) (filter (λ i. not (list_any (λ y. y == i) kept)) (below n))) ≡ true
    by true e = refl
    by false e = passes_there (λ i. not (list_any (λ y. y == i) kept)) j (ap not e) (below n) there

new_is_order : (m : Places) (n : ℕ) → are_once (kept_places m) ≡ true → list_all (λ j. nat_lt j n) (kept_places m) ≡ true
    → IsOrderOf (new_order m n) n
unfolding new_order
new_is_order m n once low = record {
  low = new_low m n low;
  once = new_once m n once low;
  all = new_among (kept_places m) n;
  many = new_count m n once low;
}

-- ---- interfaces in an order

same_some : {X : Type 0} (x y : X) → Some x ≡ Some y → x ≡ y
same_some {X} x y e = ap (λ (o : Option X). option_map_or (λ z. z) o x) e

none_are : {X : Type 0} (q : X → Bool) (xs : List X) → list_all (λ x. not (q x)) xs ≡ not (list_any q xs)
none_are q [] = refl
none_are q (x ∷ xs) = by (q x) (none_are q xs)
  where
    by : (b : Bool) → list_all (λ y. not (q y)) xs ≡ not (list_any q xs)
        → (not b && list_all (λ y. not (q y)) xs) ≡ not (b || list_any q xs)
    by true e = refl
    by false e = e

got_passes : (p : InterfaceConfig → Bool) (cs : List InterfaceConfig) (i : ℕ) (c : InterfaceConfig) → list_all p cs ≡ true
    → slice_get cs i ≡ Some c → p c ≡ true
got_passes p [] zero c e got = cc
got_passes p [] (suc i) c e got = cc
got_passes p (x ∷ xs) zero c e got = ap p (sym (same_some x c got)) ∙ first (p x) (list_all p xs) e
got_passes p (x ∷ xs) (suc i) c e got = got_passes p xs i c (second (p x) (list_all p xs) e) got

module _ (cs : List InterfaceConfig) where
  all_at : (p : InterfaceConfig → Bool) (order : List ℕ) → list_all p cs ≡ true → list_all p (interfaces_at cs order) ≡ true
  all_at p [] e = refl
  all_at p (i ∷ order) e = by (slice_get cs i) refl (all_at p order e)
    where
      by : (o : Option InterfaceConfig) → slice_get cs i ≡ o → list_all p (interfaces_at cs order) ≡ true
          → list_all p (cons_option o (interfaces_at cs order)) ≡ true
      by None got later = later
      by (Some c) got later = both (p c) (list_all p (interfaces_at cs order)) (got_passes p cs i c e got) later

  none_at : (q : InterfaceConfig → Bool) (order : List ℕ) → not (list_any q cs) ≡ true
      → not (list_any q (interfaces_at cs order)) ≡ true
  none_at q order e =
      sym (none_are q (interfaces_at cs order)) ∙ all_at (λ c. not (q c)) order (none_are q cs ∙ e)

-- no subnet overlaps another, in any order
swap_overlap : (a b : InterfaceConfig) → overlaps a b ≡ overlaps b a
swap_overlap a b = swapped (contains (subnet a) b.address.bits) (contains (subnet b) a.address.bits)

two_apart : (cs : List InterfaceConfig) (i j : ℕ) (c d : InterfaceConfig) → are_apart cs ≡ true → slice_get cs i ≡ Some c
    → slice_get cs j ≡ Some d → (i ≡ j → ⊥) → overlaps c d ≡ false
unfolding are_apart
two_apart [] zero j c d e f g other = cc
two_apart [] (suc i) j c d e f g other = cc
two_apart (x ∷ xs) zero zero c d e f g other = absurd (other refl)
two_apart (x ∷ xs) zero (suc j) c d e f g other =
    ap (λ (a : InterfaceConfig). overlaps a d) (sym (same_some x c f))
    ∙ isnt (overlaps x d)
    (got_passes (λ y. not (overlaps x y)) xs j d
    (none_are (overlaps x) xs ∙ first (not (list_any (overlaps x) xs)) (are_apart xs) e) g)
two_apart (x ∷ xs) (suc i) zero c d e f g other =
    swap_overlap c d
    ∙ ap (λ (a : InterfaceConfig). overlaps a c) (sym (same_some x d g))
    ∙ isnt (overlaps x c)
    (got_passes (λ y. not (overlaps x y)) xs i c
    (none_are (overlaps x) xs ∙ first (not (list_any (overlaps x) xs)) (are_apart xs) e) f)
two_apart (x ∷ xs) (suc i) (suc j) c d e f g other =
    two_apart xs i j c d (second (not (list_any (overlaps x) xs)) (are_apart xs) e) f g (λ same. other (ap suc same))

module _ (cs : List InterfaceConfig) (apart : are_apart cs ≡ true) where
  others_apart : (i : ℕ) (c : InterfaceConfig) → slice_get cs i ≡ Some c → (order : List ℕ)
      → list_any (λ m. m == i) order ≡ false → list_any (overlaps c) (interfaces_at cs order) ≡ false
  others_apart i c got [] none = refl
  others_apart i c got (j ∷ order) none =
      let parts = neither (j == i) (list_any (λ m. m == i) order) none in
      by (slice_get cs j) refl (others_apart i c got order parts.1) (other parts.0)
    where
      other : (j == i) ≡ false → i ≡ j → ⊥
      other differs same = cc (sym (itself i) ∙ ap (λ (k : ℕ). k == i) same ∙ differs)
        where
          itself : (k : ℕ) → (k == k) ≡ true
          itself k = grind (arith, nat_tests)

      by : (o : Option InterfaceConfig) → slice_get cs j ≡ o → list_any (overlaps c) (interfaces_at cs order) ≡ false
          → (i ≡ j → ⊥) → list_any (overlaps c) (cons_option o (interfaces_at cs order)) ≡ false
      by None there later apart_from = later
      by (Some d) there later apart_from =
          ap (λ (b : Bool). b || list_any (overlaps c) (interfaces_at cs order))
          (two_apart cs i j c d apart got there apart_from)
          ∙ later

  apart_at : (order : List ℕ) → are_once order ≡ true → are_apart (interfaces_at cs order) ≡ true
  unfolding are_apart is_among
  apart_at [] once = refl
  apart_at (i ∷ order) once =
      by (slice_get cs i) refl (apart_at order (second (not (list_any (λ m. m == i) order)) (are_once order) once))
    where
      by : (o : Option InterfaceConfig) → slice_get cs i ≡ o → are_apart (interfaces_at cs order) ≡ true
          → are_apart (cons_option o (interfaces_at cs order)) ≡ true
      by None got later = later
      by (Some c) got later =
          both (not (list_any (overlaps c) (interfaces_at cs order))) (are_apart (interfaces_at cs order))
          (ap not (others_apart i c got order
          (isnt (list_any (λ m. m == i) order) (first (not (list_any (λ m. m == i) order)) (are_once order) once))))
          later

-- ---- routes and own addresses

five : (p l u o f k q : Bool) → (l ≡ true → k ≡ true) → (not o ≡ true → not q ≡ true) → (p && l && u && not o && f) ≡ true
    → (p && k && u && not q && f) ≡ true
five true true true false true k q goes stays e = rw (goes refl, stays refl) refl
five true true true false false k q goes stays e = cc
five true true true true f k q goes stays e = cc
five true true false o f k q goes stays e = cc
five true false u o f k q goes stays e = cc
five false l u o f k q goes stays e = cc

own_stays : (a b o : Bool) → (not a ≡ true → not b ≡ true) → not (a || o) ≡ true → not (b || o) ≡ true
own_stays true b o goes e = cc
own_stays false b o goes e = by b (goes refl) e
  where
    by : (b : Bool) → not b ≡ true → not o ≡ true → not (b || o) ≡ true
    by true f e = cc
    by false f e = e

module _ (c : Config) (order : List ℕ) (is : IsOrderOf order (length c.interfaces)) where
  abbrev before : Addressing
  before = addressing_of c

  abbrev after : Addressing
  after = addressing_of (in_order order c)

  same_count : length (interfaces_at c.interfaces order) ≡ length c.interfaces
  same_count = all_found c.interfaces order is.low ∙ is.many

  leads : (n : ℕ) → nat_lt n (length c.interfaces) ≡ true
      → nat_lt (index_of order n) (length (interfaces_at c.interfaces order)) ≡ true
  unfolding index_of
  leads n less =
      ap (λ (k : ℕ). nat_lt (index_from 0 n order) k) (same_count ∙ sym is.many ∙ from_zero (length order))
      ∙ index_low n 0 order (is.all n less)

  own_at : (address : ℕ) → not (is_own_among before address) ≡ true → not (is_own_among after address) ≡ true
  unfolding is_own_among in_order
  own_at address e =
      own_stays (list_any (λ (i : InterfaceConfig). i.address.bits == address) c.interfaces)
      (list_any (λ (i : InterfaceConfig). i.address.bits == address) (interfaces_at c.interfaces order))
      (list_any (λ (own : Addr). own.bits == address) c.addresses)
      (none_at c.interfaces (λ (i : InterfaceConfig). i.address.bits == address) order) e

  route_at : (r : Route) → is_route before r ≡ true → is_route after (route_in_order order r) ≡ true
  unfolding is_route in_order
  route_at r e =
      five (is_prefix r.prefix) (nat_lt r.iface.number (length c.interfaces)) (is_unicast r.next_hop.bits)
      (is_own_among before r.next_hop.bits) (nat_le r.preference 0x7FFF_FFFE)
      (nat_lt (index_of order r.iface.number) (length (interfaces_at c.interfaces order)))
      (is_own_among after r.next_hop.bits) (leads r.iface.number) (own_at r.next_hop.bits) e

  each_route_at : (rs : List Route) → list_all (is_route before) rs ≡ true
      → list_all (is_route after) (map (route_in_order order) rs) ≡ true
  each_route_at [] e = refl
  each_route_at (r ∷ rs) e =
      both (is_route after (route_in_order order r)) (list_all (is_route after) (map (route_in_order order) rs))
      (route_at r (first (is_route before r) (list_all (is_route before) rs) e))
      (each_route_at rs (second (is_route before r) (list_all (is_route before) rs) e))

  same_prefixes : (rs : List Route) → map (λ (r : Route). r.prefix) (map (route_in_order order) rs) ≡ map (λ (r : Route). r.prefix) rs
  same_prefixes [] = refl
  same_prefixes (r ∷ rs) = ap (λ (ps : List Prefix). r.prefix ∷ ps) (same_prefixes rs)

  three : (a b d x y z : Bool) → a ≡ x → (b ≡ true → y ≡ true) → d ≡ z → (a && b && d) ≡ true → (x && y && z) ≡ true
  three true true true x y z f g h e = rw (← f, g refl, ← h) refl
  three true true false x y z f g h e = cc
  three true false d x y z f g h e = cc
  three false b d x y z f g h e = cc

  routes_at : are_routes before c.routes ≡ true → are_routes after (map (route_in_order order) c.routes) ≡ true
  unfolding are_routes
  routes_at e =
      three (nat_le (length c.routes) 100000) (list_all (is_route before) c.routes)
      (are_distinct (map (λ (r : Route). r.prefix) c.routes))
      (nat_le (length (map (route_in_order order) c.routes)) 100000)
      (list_all (is_route after) (map (route_in_order order) c.routes))
      (are_distinct (map (λ (r : Route). r.prefix) (map (route_in_order order) c.routes)))
      (ap (λ (k : ℕ). nat_le k 100000) (sym (length-map c.routes (route_in_order order)))) (each_route_at c.routes)
      (ap are_distinct (sym (same_prefixes c.routes))) e

  apart_from : (a : Addr) → is_apart c.interfaces a ≡ true → is_apart (interfaces_at c.interfaces order) a ≡ true
  apart_from a e =
      both (is_unicast a.bits) (not (is_in_subnet (interfaces_at c.interfaces order) a.bits))
      (first (is_unicast a.bits) (not (is_in_subnet c.interfaces a.bits)) e)
      (none_at c.interfaces (λ (i : InterfaceConfig). contains (subnet i) a.bits) order
      (second (is_unicast a.bits) (not (is_in_subnet c.interfaces a.bits)) e))

  addresses_at : are_own_addresses before ≡ true → are_own_addresses after ≡ true
  unfolding are_own_addresses in_order
  addresses_at e =
      three _ _ _ _ _ _ refl
      (all_more (is_apart c.interfaces) (is_apart (interfaces_at c.interfaces order)) apart_from c.addresses) refl e

-- ---- all tests

ten : (a b c d e f g h i j : Bool)
    → (expect a Refusal.InterfaceCount >> expect b Refusal.InterfaceAddress >> expect c Refusal.InterfaceLength >>
    expect d Refusal.Overlap
    >> expect e Refusal.BadLimit >> expect f Refusal.BadQuerier >> expect g Refusal.BadDelay >> expect h
    Refusal.ConfiguredRoutes >> expect i Refusal.ConfiguredRps >> expect j Refusal.OwnAddresses) ≡ Ok tt
    → (a ≡ true) × (b ≡ true) × (c ≡ true) × (d ≡ true) × (e ≡ true) × (f ≡ true) × (g ≡ true) × (h ≡ true) × (i ≡ true)
    × (j ≡ true)
ten true true true true true true true true true true is = (refl, refl, refl, refl, refl, refl, refl, refl, refl, refl)
ten true true true true true true true true true false is = cc
ten true true true true true true true true false j is = cc
ten true true true true true true true false i j is = cc
ten true true true true true true false h i j is = cc
ten true true true true true false g h i j is = cc
ten true true true true false f g h i j is = cc
ten true true true false e f g h i j is = cc
ten true true false d e f g h i j is = cc
ten true false c d e f g h i j is = cc
ten false b c d e f g h i j is = cc

passing : (a b c d e f g h i j : Bool) → a ≡ true → b ≡ true → c ≡ true → d ≡ true → e ≡ true → f ≡ true → g ≡ true → h ≡ true
    → i ≡ true → j ≡ true
    → (expect a Refusal.InterfaceCount >> expect b Refusal.InterfaceAddress >> expect c Refusal.InterfaceLength >>
    expect d Refusal.Overlap
    >> expect e Refusal.BadLimit >> expect f Refusal.BadQuerier >> expect g Refusal.BadDelay >> expect h
    Refusal.ConfiguredRoutes >> expect i Refusal.ConfiguredRps >> expect j Refusal.OwnAddresses) ≡ Ok tt
passing a b c d e f g h i j pa pb pc pd pe pf pg ph pi pj = rw (pa, pb, pc, pd, pe, pf, pg, ph, pi, pj) refl

ordered_accepted : (c : Config) (order : List ℕ) → IsOrderOf order (length c.interfaces) → config_test c ≡ Ok tt
    → config_test (in_order order c) ≡ Ok tt
unfolding config_test in_order is_querier_config
ordered_accepted c order is accepted =
    let parts = ten (is_between 1 most_ifaces (length c.interfaces))
    (list_all (λ (i : InterfaceConfig). is_unicast i.address.bits) c.interfaces)
    (list_all (λ (i : InterfaceConfig). is_between 1 31 i.length) c.interfaces) (are_apart c.interfaces)
    (is_between 1 1000000 c.limit) (is_querier_config c) (list_all is_delay_config c.interfaces)
    (are_routes (addressing_of c) c.routes) (are_rps c.rps) (are_own_addresses (addressing_of c)) accepted in
    let these = interfaces_at c.interfaces order in
    passing (is_between 1 most_ifaces (length these))
    (list_all (λ (i : InterfaceConfig). is_unicast i.address.bits) these)
    (list_all (λ (i : InterfaceConfig). is_between 1 31 i.length) these) (are_apart these) (is_between 1 1000000 c.limit)
    (is_querier_config c) (list_all is_delay_config these)
    (are_routes (addressing_of (in_order order c)) (map (route_in_order order) c.routes)) (are_rps c.rps)
    (are_own_addresses (addressing_of (in_order order c)))
    (ap (is_between 1 most_ifaces) (same_count c order is) ∙ parts.0)
    (all_at c.interfaces (λ (i : InterfaceConfig). is_unicast i.address.bits) order parts.1)
    (all_at c.interfaces (λ (i : InterfaceConfig). is_between 1 31 i.length) order parts.2)
    (apart_at c.interfaces parts.3 order is.once) parts.4 parts.5 (all_at c.interfaces is_delay_config order parts.6)
    (routes_at c order is parts.7) parts.8 (addresses_at c order is parts.9)

pub orders_are_accepted : OrdersAreAccepted
unfolding config_of
orders_are_accepted s m c e was is =
    let count : ℕ = length c.interfaces in (
      ordered_accepted (config_of s) (old_order m)
          (subst (IsOrderOf (old_order m)) (as_many (iface_count s) count m e) (old_is_order m)) was,
      ordered_accepted c (new_order m count)
          (new_is_order m count (each_once (iface_count s) count m e) (each_low (iface_count s) count m e)) is,
    )
