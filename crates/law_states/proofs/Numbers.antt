-- The orders of a map in which each place stays at its number.
use Rattle.std.{proofs.{Common.{◌≡◌, ◌<◌, ◌≤◌, ◌+◌, ◌-◌, ◌||◌, ◌==◌, ◌∙◌, ℕ, zero, suc, min, Bool, true, false, not, cond, if◌then◌else◌, List, [], ◌∷◌, ◌++◌, filter, map, length, nat_lt, Option, Some, None, is_some, option_map, refl, sym, ap, arith, eqb-true, add-one}, lemmas.{Bool.Decides.nat_tests, List.{length-map, FromFn.length-range_with_len}, Option.slice_get-map}}, specs.{List.{cons_option, list_any, range_with_len, slice_get}, Option.option_map_or}}
use Rattle.pim_types.{specs.declared.config.{Config.Config, InterfaceConfig.InterfaceConfig, Route.Route}}
use Rattle.pim_model.{specs.Tables.{below, is_among}}
use Rattle.law_states.{specs.Placing.{Places, each_to_itself, in_order, index_from, index_of, interfaces_at, is_kept, is_left_out, is_new, kept_places, new_order, number_at, old_order, route_in_order, to_order}}

-- ---- numbers of a range

pub got_range : (i n k : ℕ) → slice_get (range_with_len k n) i ≡ cond (nat_lt i n) (Some (k + i)) None
got_range i zero k = ap (λ (b : Bool). cond b (Some (k + i)) None) (sym (none i))
  where
    none : (a : ℕ) → nat_lt a 0 ≡ false
    none a = grind (arith, nat_tests)
got_range zero (suc n) k = ap Some (here k) ∙ ap (λ (b : Bool). cond b (Some (k + 0)) None) (sym (first n))
  where
    here : (a : ℕ) → a ≡ a + 0
    here a = omega arith

    first : (a : ℕ) → nat_lt 0 (suc a) ≡ true
    first a = grind (arith, nat_tests)
got_range (suc i) (suc n) k =
    got_range i n (k + 1)
    ∙ (λ j. cond (nat_lt i n) (Some (shift k i j)) None)
    ∙ ap (λ (b : Bool). cond b (Some (k + suc i)) None) (lower i n)
  where
    shift : (a b : ℕ) → (a + 1) + b ≡ a + suc b
    shift a b = omega arith

    lower : (a b : ℕ) → nat_lt a b ≡ nat_lt (suc a) (suc b)
    lower a b = grind (arith, nat_tests)

pub number_below : (k i : ℕ) → number_at (below k) i ≡ i
unfolding number_at
number_below k i = ap (λ (o : Option ℕ). option_map_or (λ n. n) o i) (got_range i k 0) ∙ by (nat_lt i k)
  where
    by : (b : Bool) → option_map_or (λ n. n) (cond b (Some (0 + i)) None) i ≡ i
    by true = omega arith
    by false = refl

index_range : (i n s : ℕ) → s ≤ i → index_from s i (range_with_len s n) ≡ i
index_range i zero s le = refl
index_range i (suc n) s le = by (s == i) refl (index_range i n (s + 1))
  where
    by : (b : Bool) → (s == i) ≡ b → (s + 1 ≤ i → index_from (s + 1) i (range_with_len (s + 1) n) ≡ i)
        → cond b s (index_from (s + 1) i (range_with_len (s + 1) n)) ≡ i
    by true e later = eqb-true s i e
    by false e later = later (grind (arith, nat_tests, e, le))

pub index_below : (k i : ℕ) → index_of (below k) i ≡ i
unfolding index_of
index_below k i = index_range i k 0 (omega arith)

-- ---- the numbers below another one

module _ (n : ℕ) where
  low_part : (k s : ℕ) → filter (λ i. nat_lt i n) (range_with_len s k) ≡ range_with_len s (min k (n - s))
  low_part zero s = ap (range_with_len s) (none (n - s))
    where
      none : (a : ℕ) → 0 ≡ min 0 a
      none a = omega arith
  low_part (suc k) s = by (nat_lt s n) refl (low_part k (s + 1))
    where
      more : nat_lt s n ≡ true → suc (min k (n - (s + 1))) ≡ min (suc k) (n - s)
      more e = grind (arith, nat_tests, e)

      over : nat_lt s n ≡ false → min k (n - (s + 1)) ≡ 0
      over e = grind (arith, nat_tests, e)

      past : nat_lt s n ≡ false → 0 ≡ min (suc k) (n - s)
      past e = grind (arith, nat_tests, e)

      by : (b : Bool) → nat_lt s n ≡ b
          → filter (λ i. nat_lt i n) (range_with_len (s + 1) k) ≡ range_with_len (s + 1) (min k (n - (s + 1)))
          → cond b (s ∷ filter (λ i. nat_lt i n) (range_with_len (s + 1) k)) (filter (λ i. nat_lt i n) (range_with_len (s + 1) k))
          ≡ range_with_len s (min (suc k) (n - s))
      by true e later = ap (λ (l : List ℕ). s ∷ l) later ∙ ap (range_with_len s) (more e)
      by false e later = later ∙ ap (range_with_len (s + 1)) (over e) ∙ ap (range_with_len s) (past e)

  none_over : (k s : ℕ) → nat_lt s n ≡ false → filter (λ i. nat_lt i n) (range_with_len s k) ≡ []
  none_over k s e = low_part k s ∙ ap (range_with_len s) (over k)
    where
      over : (a : ℕ) → min a (n - s) ≡ 0
      over a = grind (arith, nat_tests, e)

  pub in_two : (k s : ℕ)
      → filter (λ i. nat_lt i n) (range_with_len s k) ++ filter (λ i. not (nat_lt i n)) (range_with_len s k) ≡ range_with_len s k
  in_two zero s = refl
  in_two (suc k) s = by (nat_lt s n) refl (in_two k (s + 1))
    where
      low : List ℕ
      low = filter (λ i. nat_lt i n) (range_with_len (s + 1) k)

      high : List ℕ
      high = filter (λ i. not (nat_lt i n)) (range_with_len (s + 1) k)

      next_over : nat_lt s n ≡ false → nat_lt (s + 1) n ≡ false
      next_over e = grind (arith, nat_tests, e)

      by : (b : Bool) → nat_lt s n ≡ b → low ++ high ≡ range_with_len (s + 1) k
          → cond b (s ∷ low) low ++ cond (not b) (s ∷ high) high ≡ s ∷ range_with_len (s + 1) k
      by true e later = ap (λ (l : List ℕ). s ∷ l) later
      by false e later =
          ap (λ (l : List ℕ). l ++ (s ∷ high)) (none_over k (s + 1) (next_over e))
          ∙ ap (λ (l : List ℕ). s ∷ l) (ap (λ (l : List ℕ). l ++ high) (sym (none_over k (s + 1) (next_over e))) ∙ later)

-- ---- the orders

same_filter : (p q : ℕ → Bool) (k s : ℕ) → ((i : ℕ) → i < s + k → p i ≡ q i)
    → filter p (range_with_len s k) ≡ filter q (range_with_len s k)
same_filter p q zero s same = refl
same_filter p q (suc k) s same =
    let later : filter p (range_with_len (s + 1) k) ≡ filter q (range_with_len (s + 1) k) =
    same_filter p q k (s + 1) (λ i less. same i (omega (arith, less))) in
    λ j. cond (same s (omega arith) j) (s ∷ later j) (later j)

module _ (k n : ℕ) where
  abbrev m : Places
  m = each_to_itself k n

  abbrev goes : ℕ → Option ℕ
  goes i = if nat_lt i n then Some i else None

  pub count_is : length m ≡ k
  count_is = length-map (below k) goes ∙ length-range_with_len 0 k

  kept_filter : (c s : ℕ) → kept_places (map goes (range_with_len s c)) ≡ filter (λ i. nat_lt i n) (range_with_len s c)
  kept_filter zero s = refl
  kept_filter (suc c) s = by (nat_lt s n) (kept_filter c (s + 1))
    where
      by : (b : Bool) → kept_places (map goes (range_with_len (s + 1) c)) ≡ filter (λ i. nat_lt i n) (range_with_len (s + 1) c)
          → kept_places ((cond b (Some s) None) ∷ map goes (range_with_len (s + 1) c))
          ≡ cond b (s ∷ filter (λ i. nat_lt i n) (range_with_len (s + 1) c)) (filter (λ i. nat_lt i n) (range_with_len (s + 1) c))
      by true e = ap (λ (l : List ℕ). s ∷ l) e
      by false e = e

  pub kept_are : kept_places m ≡ below (min k n)
  kept_are = kept_filter k 0 ∙ low_part n k 0 ∙ ap (λ (a : ℕ). range_with_len 0 (min k a)) (less n)
    where
      less : (a : ℕ) → a - 0 ≡ a
      less a = omega arith

  kept_is : (i : ℕ) → i < 0 + k → is_kept m i ≡ nat_lt i n
  unfolding is_kept
  kept_is i less =
      ap (λ (o : Option (Option ℕ)). option_map_or (λ x. is_some x) o false)
      (slice_get-map goes (below k) i ∙ ap (option_map goes) (got_range i k 0 ∙ ap (λ (b : Bool). cond b (Some (0 + i)) None) within))
      ∙ by (0 + i) (omega arith)
    where
      within : nat_lt i k ≡ true
      within = grind (arith, nat_tests, less)

      by : (a : ℕ) → a ≡ i → is_some (goes a) ≡ nat_lt i n
      by a e = go (nat_lt a n) a ∙ ap (λ (b : ℕ). nat_lt b n) e
        where
          go : (b : Bool) (x : ℕ) → is_some (cond b (Some x) None) ≡ b
          go true x = refl
          go false x = refl

  pub old_is : old_order m ≡ below k
  unfolding old_order is_left_out
  old_is =
      ap (λ (c : ℕ). filter (is_kept m) (below c) ++ filter (λ i. not (is_kept m i)) (below c)) count_is
      ∙ (λ j. same_filter (is_kept m) (λ i. nat_lt i n) k 0 kept_is j
      ++ same_filter (λ i. not (is_kept m i)) (λ i. not (nat_lt i n)) k 0 (λ i less. ap not (kept_is i less)) j)
      ∙ in_two n k 0

  all_same : (order : List ℕ) → ((i : ℕ) → index_of order i ≡ i) → (xs : List ℕ) → map (index_of order) xs ≡ xs
  all_same order same [] = refl
  all_same order same (x ∷ xs) = λ j. same x j ∷ all_same order same xs j

  pub to_is : to_order m ≡ below k
  unfolding to_order
  to_is =
      (λ j. map (index_of (old_is j)) (below (count_is j))) ∙ all_same (below k) (index_below k) (below k)

  pub among : (c s i : ℕ) → s ≤ i → list_any (λ x. x == i) (range_with_len s c) ≡ nat_lt i (s + c)
  among zero s i le = sym (none s i le)
    where
      none : (a b : ℕ) → a ≤ b → nat_lt b (a + 0) ≡ false
      none a b f = grind (arith, nat_tests, f)
  among (suc c) s i le = by (s == i) refl (among c (s + 1) i)
    where
      here : (s == i) ≡ true → true ≡ nat_lt i (s + suc c)
      here e = let same : s ≡ i = eqb-true s i e in grind (arith, nat_tests, same)

      next : (s == i) ≡ false → s + 1 ≤ i
      next e = grind (arith, nat_tests, e, le)

      shift : (s + 1) + c ≡ s + suc c
      shift = omega arith

      by : (b : Bool) → (s == i) ≡ b → (s + 1 ≤ i → list_any (λ x. x == i) (range_with_len (s + 1) c) ≡ nat_lt i ((s + 1) + c))
          → (b || list_any (λ x. x == i) (range_with_len (s + 1) c)) ≡ nat_lt i (s + suc c)
      by true e later = here e
      by false e later = later (next e) ∙ ap (λ (a : ℕ). nat_lt i a) shift

  new_are : (a i : ℕ) → is_new (below a) i ≡ not (nat_lt i a)
  unfolding is_new is_among
  new_are a i = ap not (among a 0 i (omega arith) ∙ ap (λ (x : ℕ). nat_lt i x) (from_zero a))
    where
      from_zero : (x : ℕ) → 0 + x ≡ x
      from_zero x = omega arith

  pub new_is : new_order m n ≡ below n
  unfolding new_order
  new_is =
      ap (λ (l : List ℕ). l ++ filter (is_new l) (below n)) kept_are
      ∙ (λ j. first j ++ same_filter (is_new (below (min k n))) (λ i. not (nat_lt i (min k n))) n 0
      (λ i less. new_are (min k n) i) j)
      ∙ in_two (min k n) n 0
    where
      first : below (min k n) ≡ filter (λ i. nat_lt i (min k n)) (below n)
      first = ap (range_with_len 0) (least k n) ∙ sym (low_part (min k n) n 0)
        where
          least : (a b : ℕ) → min a b ≡ min b (min a b - 0)
          least a b = omega arith

-- ---- a configuration in its own order

shifted : (c : InterfaceConfig) (cs : List InterfaceConfig) (n s : ℕ)
    → interfaces_at (c ∷ cs) (range_with_len (s + 1) n) ≡ interfaces_at cs (range_with_len s n)
shifted c cs zero s = refl
shifted c cs (suc n) s =
    λ j. cons_option (next j) (shifted c cs n (s + 1) j)
  where
    next : slice_get (c ∷ cs) (s + 1) ≡ slice_get cs s
    next = ap (slice_get (c ∷ cs)) (add-one s)

all_at : (cs : List InterfaceConfig) → interfaces_at cs (below (length cs)) ≡ cs
all_at [] = refl
all_at (c ∷ cs) = ap (λ (l : List InterfaceConfig). c ∷ l) (shifted c cs (length cs) 0 ∙ all_at cs)

routes_same : (k : ℕ) (rs : List Route) → map (route_in_order (below k)) rs ≡ rs
routes_same k [] = refl
routes_same k (r ∷ rs) = λ j. one j ∷ routes_same k rs j
  where
    one : route_in_order (below k) r ≡ r
    one = λ j. record r { iface = record { number = index_below k r.iface.number j } }

pub in_own_order : (c : Config) → in_order (below (length c.interfaces)) c ≡ c
unfolding in_order
in_own_order c = λ j. record c { interfaces = all_at c.interfaces j; routes = routes_same (length c.interfaces) c.routes j }
