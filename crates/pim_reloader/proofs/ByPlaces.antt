-- The parts of a reload by a map of places, one after the other, are the reload; and what each of them asks for.
use Rattle.std.{proofs.{Common.{◌≡◌, ◌≤◌, ◌+◌, ◌-◌, ◌&&◌, ◌++◌, ◌∙◌, ℕ, zero, suc, nat_lt, Bool, true, false, List, [], ◌∷◌, length, map, take, drop, Ok, refl, sym, ap, subst, arith}, lemmas.{Bool.Decides.nat_tests, List.length-map}}, specs.{List.{list_all, slice_get}, Option.option_map_or}}
use Rattle.pim_types.{specs.declared.{config.{Config.Config, InterfaceConfig.InterfaceConfig}, outcome.Emission.Emission}}
use Rattle.pim_model.{specs.{Limits.config_test, State.{InterfaceTable, State, iface_count, interfaces_of, opening, settings_of}}}
use Rattle.law_settled.{specs.Ready.IsSettled, proofs.ListLaws.all_more}
use Rattle.law_events.{specs.Rest.IsAtRest}
use Rattle.law_states.{specs.{Reload.config_of, Placing.{Places, are_places, gone_on, in_order, index_of, kept_places, leaving_on, moved, new_order, number_at, old_order, reload_by, resubnetted, to_order}}, proofs.{Reloads.accepted_setting, Ground.replaced_is_under, PlacedAccepted.orders_are_accepted, Apart.{new_count, old_count}, Moved.moved_is_under, Orders.{all_found, new_low, places_are_there}, PlacedRest.moved_is_at_rest, Ups.{as_many, each_low, each_once, few_kept, no_more_kept, old_many}}}
use Rattle.pim_worlds.{specs.{Leading.LeadWithin, Ordered.AreOrders, declared.orders.Orders.Orders}}
use Rattle.pim_reloader.{specs.Reloads.{AreReady, halfway}}

-- ---- where places lead

none_below : (i : ℕ) → nat_lt i 0 ≡ true → ⊥
none_below i less = grind (arith, nat_tests, less)

lower : (i n : ℕ) → nat_lt (suc i) (suc n) ≡ true → nat_lt i n ≡ true
lower i n less = grind (arith, nat_tests, less)

first : (a b : Bool) → (a && b) ≡ true → a ≡ true
first true b e = refl
first false b e = cc

second : (a b : Bool) → (a && b) ≡ true → b ≡ true
second true b e = e
second false b e = cc

module _ (p : ℕ → Bool) where
  number_passes : (xs : List ℕ) (i d : ℕ) → list_all p xs ≡ true → p d ≡ true
      → p (option_map_or (λ n. n) (slice_get xs i) d) ≡ true
  number_passes [] zero d e f = f
  number_passes [] (suc i) d e f = f
  number_passes (x ∷ xs) zero d e f = first (p x) _ e
  number_passes (x ∷ xs) (suc i) d e f = number_passes xs i d (second (p x) _ e) f

  number_there : (xs : List ℕ) (i d : ℕ) → list_all p xs ≡ true → nat_lt i (length xs) ≡ true
      → p (option_map_or (λ n. n) (slice_get xs i) d) ≡ true
  number_there [] i d e less = absurd (none_below i less)
  number_there (x ∷ xs) zero d e less = first (p x) _ e
  number_there (x ∷ xs) (suc i) d e less = number_there xs i d (second (p x) _ e) (lower i (length xs) less)

pub leads_within : (places : List ℕ) (old new : ℕ) → old ≤ length places → list_all (λ j. nat_lt j new) places ≡ true
    → new ≤ 120 → LeadWithin places old new
unfolding number_at
leads_within places old new long low few = record {
  there = λ i less. number_there (λ j. nat_lt j new) places i i low (longer i less);
  low = λ i less. number_passes (λ j. nat_lt j 120) places i i (all_more (λ j. nat_lt j new) (λ j. nat_lt j 120) lowered places low) less;
}
  where
    longer : (i : ℕ) → nat_lt i old ≡ true → nat_lt i (length places) ≡ true
    longer i less = grind (arith, nat_tests, less, long)

    lowered : (j : ℕ) → nat_lt j new ≡ true → nat_lt j 120 ≡ true
    lowered j less = grind (arith, nat_tests, less, few)

-- ---- what the first parts ask for

module _ (s next : State) (m : Places) (orders : Orders) (are : AreOrders m (length next.configured.interfaces) orders)
    (fit : are_places (iface_count s) (length next.configured.interfaces) m ≡ true)
    (was : config_test (config_of s) ≡ Ok tt) (is : config_test (config_of next) ≡ Ok tt)
    (few_old : iface_count s ≤ 120) (few_new : length next.configured.interfaces ≤ 120) where
  abbrev count : ℕ
  count = length next.configured.interfaces

  many_old : length (old_order m) ≡ iface_count s
  many_old = old_count m ∙ as_many (iface_count s) count m fit

  many_new : length (new_order m count) ≡ count
  many_new = new_count m count (each_once (iface_count s) count m fit) (each_low (iface_count s) count m fit)

  held_old : length (in_order (old_order m) (config_of s)).interfaces ≡ length m
  unfolding config_of
  held_old = old_many s m (config_of next) 0 fit

  held_new : length (in_order (new_order m count) (config_of next)).interfaces ≡ count
  unfolding in_order config_of
  held_new =
      all_found next.configured.interfaces (new_order m count) (new_low m count (each_low (iface_count s) count m fit))
      ∙ many_new

  goes : LeadWithin (to_order m) (iface_count s) (length (in_order (old_order m) (config_of s)).interfaces)
  unfolding config_of
  goes =
      let there = places_are_there s m (config_of next) fit in
      let each : length (to_order m) ≡ iface_count s = there.each in
      let held : length (in_order (old_order m) (config_of s)).interfaces ≡ length m = held_old in
      let same : length m ≡ iface_count s = as_many (iface_count s) count m fit in
      leads_within (to_order m) (iface_count s) (length (in_order (old_order m) (config_of s)).interfaces) (omega (arith, each))
      there.there (omega (arith, held, same, few_old))

  pub few_new_order : length orders.new.items ≤ 120
  few_new_order =
      let many : length (new_order m count) ≡ count = many_new in
      subst (λ (ns : List ℕ). length ns ≤ 120) (sym are.new) (omega (arith, many, few_new))

  pub are_ready : AreReady s next orders
  unfolding config_of
  are_ready =
      let accepted = orders_are_accepted s m (config_of next) fit was is in
      record {
        few_old = let many : length (old_order m) ≡ iface_count s = many_old in
            subst (λ (ns : List ℕ). length ns ≤ 120) (sym are.old) (omega (arith, many, few_old));
        few_new = few_new_order;
        old = subst (λ (ns : List ℕ). config_test (in_order ns (config_of s)) ≡ Ok tt) (sym are.old) accepted.0;
        new = subst (λ (ns : List ℕ). config_test (in_order ns (config_of next)) ≡ Ok tt) (sym are.new) accepted.1;
        lead = subst (λ (ns : List ℕ). LeadWithin ns (iface_count s) (length (in_order orders.old.items (config_of s)).interfaces))
            (sym are.to)
            (subst (λ (ns : List ℕ). LeadWithin (to_order m) (iface_count s) (length (in_order ns (config_of s)).interfaces))
            (sym are.old) goes);
        few = subst (λ (ns : List ℕ). orders.kept ≤ length (in_order ns (config_of s)).interfaces) (sym are.old)
            (let held : length (in_order (old_order m) (config_of s)).interfaces ≡ length m = held_old in
            let few : length (kept_places m) ≤ length m = no_more_kept m in
            let same : orders.kept ≡ length (kept_places m) = are.kept in
            omega (arith, held, few, same));
        kept = subst (λ (ns : List ℕ). orders.kept ≤ length (in_order ns (config_of next)).interfaces) (sym are.new)
            (let held : length (in_order (new_order m count) (config_of next)).interfaces ≡ count = held_new in
            let few : length (kept_places m) ≤ count = few_kept (iface_count s) count m fit in
            let same : orders.kept ≡ length (kept_places m) = are.kept in
            omega (arith, held, few, same));
      }

  -- ---- and the last

  pub comes : (t : State) → config_of t ≡ in_order orders.new.items (config_of next)
      → LeadWithin orders.new.items (iface_count t) count
  unfolding config_of
  comes t under =
      let here : iface_count t ≡ length (in_order (new_order m count) (config_of next)).interfaces =
      ap (λ (d : Config). length d.interfaces) under
      ∙ ap (λ (ns : List ℕ). length (in_order ns (config_of next)).interfaces) are.new in
      let held : length (in_order (new_order m count) (config_of next)).interfaces ≡ count = held_new in
      let many : length (new_order m count) ≡ count = many_new in
      subst (λ (ns : List ℕ). LeadWithin ns (iface_count t) count) (sym are.new)
      (leads_within (new_order m count) (iface_count t) count (omega (arith, here, held, many))
      (new_low m count (each_low (iface_count s) count m fit)) few_new)

  -- ---- halfway

  module _ (w : ℕ) where
    abbrev between : State × List Emission
    between = halfway s orders (config_of next) w

    abbrev old : Config
    old = in_order (old_order m) (config_of s)

    abbrev new : Config
    new = in_order (new_order m count) (config_of next)

    abbrev begun : State × List Emission
    begun = moved s (to_order m) old (resubnetted (length (kept_places m)) old.interfaces new.interfaces) w

    abbrev renewed : State × List Emission
    renewed = gone_on begun.0 (length (kept_places m)) (length m) new w

    begun_many : iface_count begun.0 ≡ length m
    unfolding config_of
    begun_many =
        ap (λ (d : Config). length d.interfaces)
        (moved_is_under s (to_order m) old (resubnetted (length (kept_places m)) old.interfaces new.interfaces) w)
        ∙ held_old

    pub halfway_is : between ≡ (renewed.0, begun.1 ++ renewed.1)
    unfolding halfway
    halfway_is =
        (λ j. by (are.old j) (are.new j) (are.to j) (are.kept j))
        ∙ ap (λ (n : ℕ). ending (gone_on begun.0 (length (kept_places m)) n new w)) begun_many
      where
        ending : State × List Emission → State × List Emission
        ending p = (p.0, begun.1 ++ p.1)

        by : List ℕ → List ℕ → List ℕ → ℕ → State × List Emission
        by o n to k =
            let a : Config = in_order o (config_of s) in
            let b : Config = in_order n (config_of next) in
            let f : State × List Emission = moved s to a (resubnetted k a.interfaces b.interfaces) w in
            let g : State × List Emission = gone_on f.0 k (iface_count f.0) b w in
            (g.0, f.1 ++ g.1)

    pub halfway_is_under : (t : State) → t ≡ between.0 → config_of t ≡ in_order orders.new.items (config_of next)
    unfolding halfway gone_on
    halfway_is_under t same =
        ap config_of same
        ∙ replaced_is_under _ (in_order orders.new.items (config_of next)) w

    -- ---- the whole

    module _ (t n : State) (halved : t ≡ between.0) where
      pub whole_by_places : n ≡ (moved t orders.new.items (config_of next) [] w).0 → n ≡ (reload_by s m (config_of next) w).0
      unfolding reload_by config_of
      whole_by_places arrives =
          arrives
          ∙ (λ j. (moved (halved j) (are.new j) (config_of next) [] w).0)
          ∙ ap (λ (p : State × List Emission). (moved p.0 (new_order m count) (config_of next) [] w).0) halfway_is

      pub sent_by_places : (sent last later both all : List Emission) → sent ≡ between.1
          → last ≡ (moved t orders.new.items (config_of next) [] w).1
          → later ≡ map (leaving_on (index_of orders.new.items)) last → both ≡ sent ++ later
          → all ≡ map (leaving_on (number_at orders.old.items)) both → all ≡ (reload_by s m (config_of next) w).1
      unfolding reload_by config_of
      sent_by_places sent last later both all says ends numbered joined written =
          written
          ∙ (λ j. map (leaving_on (number_at (are.old j))) (joined j))
          ∙ (λ j. map (leaving_on (number_at (old_order m))) (says j ++ numbered j))
          ∙ (λ j. map (leaving_on (number_at (old_order m))) (between.1 ++ map (leaving_on (index_of (are.new j))) (ends j)))
          ∙ (λ j. map (leaving_on (number_at (old_order m)))
          (between.1 ++ map (leaving_on (index_of (new_order m count))) (moved (halved j) (are.new j) (config_of next) [] w).1))
          ∙ ap (λ (p : State × List Emission). map (leaving_on (number_at (old_order m)))
          (p.1 ++ map (leaving_on (index_of (new_order m count))) (moved p.0 (new_order m count) (config_of next) [] w).1)) halfway_is

-- ---- the parts up to the order between

pub opens_with : (c : Config) (s : State) → s ≡ opening c → config_of s ≡ c
unfolding config_of opening settings_of
opens_with c s is = ap config_of is

module _ (s o n : State) (orders : Orders) (c : Config) (w : ℕ) (places apart : List ℕ)
    (opens : o ≡ opening (in_order orders.old.items (config_of s))) (next : n ≡ opening (in_order orders.new.items c))
    (to : places ≡ orders.to.items)
    (part : apart ≡ resubnetted orders.kept o.configured.interfaces n.configured.interfaces) where
  abbrev before : Config
  before = in_order orders.old.items (config_of s)

  abbrev after : Config
  after = in_order orders.new.items c

  parts_are : apart ≡ resubnetted orders.kept before.interfaces after.interfaces
  unfolding opening
  parts_are =
      part
      ∙ (λ j. resubnetted orders.kept (ap (λ (x : State). x.configured.interfaces) opens j)
      (ap (λ (x : State). x.configured.interfaces) next j))

  moved_is : moved s places (config_of o) apart w ≡ moved s orders.to.items before (resubnetted orders.kept before.interfaces after.interfaces) w
  moved_is = λ j. moved s (to j) (opens_with before o opens j) (parts_are j) w

  module _ (f t : State) (begins : f ≡ (moved s places (config_of o) apart w).0) where
    begins_so : f ≡ (moved s orders.to.items before (resubnetted orders.kept before.interfaces after.interfaces) w).0
    begins_so = begins ∙ ap (λ (p : State × List Emission). p.0) moved_is

    pub halved : t ≡ (gone_on f orders.kept (iface_count f) (config_of n) w).0 → t ≡ (halfway s orders c w).0
    unfolding halfway
    halved goes =
        goes
        ∙ (λ j. (gone_on (begins_so j) orders.kept (iface_count (begins_so j)) (opens_with after n next j) w).0)

    pub half_sent : (sent more all : List Emission) → sent ≡ (moved s places (config_of o) apart w).1
        → more ≡ (gone_on f orders.kept (iface_count f) (config_of n) w).1 → all ≡ sent ++ more → all ≡ (halfway s orders c w).1
    unfolding halfway
    half_sent sent more all says goes both =
        both
        ∙ (λ j. (says ∙ ap (λ (p : State × List Emission). p.1) moved_is) j
        ++ (goes ∙ (λ i. (gone_on (begins_so i) orders.kept (iface_count (begins_so i)) (opens_with after n next i) w).1)) j)

    pub begun_rests : config_test before ≡ Ok tt → IsSettled s → IsAtRest f
    begun_rests accepted settled =
        subst IsAtRest (sym begins_so)
        (moved_is_at_rest s orders.to.items before (resubnetted orders.kept before.interfaces after.interfaces) w
        (accepted_setting before accepted) settled)

    pub begun_few : orders.kept ≤ length before.interfaces → orders.kept ≤ iface_count f
    unfolding config_of
    begun_few few =
        let same : iface_count f ≡ length before.interfaces =
        ap iface_count begins_so
        ∙ ap (λ (d : Config). length d.interfaces)
        (moved_is_under s orders.to.items before (resubnetted orders.kept before.interfaces after.interfaces) w) in
        omega (arith, few, same)

  pub next_few : orders.kept ≤ length after.interfaces → orders.kept ≤ length n.configured.interfaces
  unfolding opening
  next_few few = subst (λ (x : State). orders.kept ≤ length x.configured.interfaces) (sym next) few

  pub old_lead : LeadWithin orders.to.items (iface_count s) (length before.interfaces)
      → LeadWithin places (iface_count s) (length o.configured.interfaces)
  unfolding opening
  old_lead lead =
      subst (λ (x : State). LeadWithin places (iface_count s) (length x.configured.interfaces)) (sym opens)
      (subst (λ (ns : List ℕ). LeadWithin ns (iface_count s) (length before.interfaces)) (sym to) lead)

pub opened_accepted : (c : Config) (s : State) → s ≡ opening c → config_test c ≡ Ok tt → config_test (config_of s) ≡ Ok tt
opened_accepted c s is accepted = subst (λ (d : Config). config_test d ≡ Ok tt) (sym (opens_with c s is)) accepted

pub few_places : (s : State) (new : ℕ) (m : Places) → are_places (iface_count s) new m ≡ true → iface_count s ≤ 120
    → length m ≤ 120
few_places s new m fit few =
    let same : length m ≡ iface_count s = as_many (iface_count s) new m fit in omega (arith, same, few)

pub configured_is : (s : State) (t : InterfaceTable) (cs : List InterfaceConfig) → t ≡ interfaces_of s
    → cs ≡ t.configured.interfaces → cs ≡ s.configured.interfaces
configured_is s t cs of is = is ∙ ap (λ (x : InterfaceTable). x.configured.interfaces) of

pub orders_are : (m : Places) (n : ℕ) (next : State) (t : InterfaceTable) (orders : Orders) → t ≡ interfaces_of next
    → n ≡ length t.configured.interfaces → AreOrders m n orders → AreOrders m (length next.configured.interfaces) orders
orders_are m n next t orders of is are =
    subst (λ (k : ℕ). AreOrders m k orders) (is ∙ ap (λ (x : InterfaceTable). length x.configured.interfaces) of) are

pub few_interfaces : (n : ℕ) (next : State) (t : InterfaceTable) → t ≡ interfaces_of next → n ≡ length t.configured.interfaces
    → n ≤ 120 → length next.configured.interfaces ≤ 120
few_interfaces n next t of is few =
    let same : n ≡ length next.configured.interfaces = is ∙ ap (λ (x : InterfaceTable). length x.configured.interfaces) of in
    omega (arith, same, few)

-- ---- packets numbered in their place

take_front : (xs ys : List Emission) → take (length xs) (xs ++ ys) ≡ xs
take_front [] [] = refl
take_front [] (y ∷ ys) = refl
take_front (x ∷ xs) ys = ap (λ (zs : List Emission). x ∷ zs) (take_front xs ys)

pub written_over : (n : ℕ) (old given new : List Emission) (f : Emission → Emission) → given ≡ old → n ≡ length old
    → new ≡ map f given → take n (new ++ drop (length new) old) ≡ map f old
written_over n old given new f same counted made =
    let long : length new ≡ n = ap length made ∙ length-map given f ∙ ap length same ∙ sym counted in
    ap (λ (k : ℕ). take k (new ++ drop (length new) old)) (sym long) ∙ take_front new (drop (length new) old)
    ∙ made ∙ ap (map f) same
