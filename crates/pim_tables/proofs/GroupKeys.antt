-- The (S,G,rpt) keys of groups that rise, group by group.
use Rattle.std.{proofs.{Common.{◌≡◌, ◌<◌, ◌==◌, ◌&&◌, ◌||◌, ℕ, Bool, true, false, cond, List, [], ◌∷◌, ◌++◌, refl, sym, ap, ◌∙◌, arith, filter}, lemmas.{Bool.Decides.nat_tests, List.Elements.filter_agree}}, specs.{List.{AllByRecursion, flat_map, list_any, Sorted.IsStrictlySortedBy}, Option.option_cmp, Ordering.{bool_cmp, nat_cmp, ordering_then}, declared.cmp.Ordering.{Ordering, TheVariants.{Less, Equal, Greater}}}}
use Rattle.pim_ip.{specs.declared.addr.Addr.Addr}
use Rattle.pim_types.{specs.{declared.fact.Key.Key, Keys.{addr_cmp, group_in, iface_in, is_of_group, is_on, key_cmp}}, proofs.Keys.nat_cmp_same}
use Rattle.pim_model.{specs.Tables.{Table, keys_in}}

-- ---- keys that pass one test come before those that pass the other

module _ (p q : Key → Bool) (apart : (k : Key) → p k ≡ true → q k ≡ false)
    (before : (k m : Key) → key_cmp k m ≡ Less → q k ≡ true → p m ≡ false) where
  abbrev either : Key → Bool
  either k = p k || q k

  none_later : (k : Key) → q k ≡ true → (ks : List Key) → AllByRecursion (λ m. key_cmp k m ≡ Less) ks
      → filter p ks ≡ []
  none_later k here [] above = refl
  none_later k here (m ∷ ks) above = rw (before k m above.0 here) (none_later k here ks above.1)

  one_key : (k : Key) (ks : List Key) → AllByRecursion (λ m. key_cmp k m ≡ Less) ks → (b c : Bool) → p k ≡ b → q k ≡ c
      → filter p ks ++ filter q ks ≡ filter either ks
      → cond b (k ∷ filter p ks) (filter p ks) ++ cond c (k ∷ filter q ks) (filter q ks)
      ≡ cond (b || c) (k ∷ filter either ks) (filter either ks)
  one_key k ks above true true is also rest = let never : true ≡ false = sym also ∙ apart k is in cc
  one_key k ks above true false is also rest = ap (λ ms. k ∷ ms) rest
  one_key k ks above false true is also rest =
      let none : filter p ks ≡ [] = none_later k also ks above in
      ap (λ ms. ms ++ k ∷ filter q ks) none
      ∙ ap (λ ms. k ∷ ms) (ap (λ ms. ms ++ filter q ks) (sym none) ∙ rest)
  one_key k ks above false false is also rest = rest

  filters_joined : (ks : List Key) → IsStrictlySortedBy key_cmp ks → filter p ks ++ filter q ks ≡ filter either ks
  unfolding IsStrictlySortedBy
  filters_joined [] sorted = refl
  filters_joined (k ∷ ks) sorted = one_key k ks sorted.0 (p k) (q k) refl refl (filters_joined ks sorted.1)

-- ---- tests

first_true : (a b : Bool) → (a && b) ≡ true → a ≡ true
first_true true b e = refl
first_true false b e = cc

second_true : (a b : Bool) → (a && b) ≡ true → b ≡ true
second_true true b e = e
second_true false b e = cc

refuted : (b : Bool) → (b ≡ true → ⊥) → b ≡ false
refuted true never = absurd (never refl)
refuted false never = refl

number_of : (m n : ℕ) → (m == n) ≡ true → m ≡ n
number_of m n same = grind (arith, nat_tests)

-- ---- the keys of one group, and of some

module _ (i : ℕ) where
  abbrev is_rpt_of : ℕ → Key → Bool
  is_rpt_of g k = is_on i k && k.rpt && is_of_group g k

  abbrev pub is_rpt_among : List Addr → Key → Bool
  is_rpt_among gs k = is_on i k && k.rpt && list_any (λ (a : Addr). group_in k == a.bits) gs

  above_all : (g : ℕ) (n : ℕ) (gs : List Addr) → AllByRecursion (λ (a : Addr). nat_cmp g a.bits ≡ Less) gs
      → list_any (λ (a : Addr). n == a.bits) gs ≡ true → g < n
  above_all g n [] above among = cc
  above_all g n (a ∷ gs) above among = go (n == a.bits) refl among (above_all g n gs above.1)
    where
      go : (b : Bool) → (n == a.bits) ≡ b → (b || list_any (λ (a : Addr). n == a.bits) gs) ≡ true
          → (list_any (λ (a : Addr). n == a.bits) gs ≡ true → g < n) → g < n
      go true same among later = grind (arith, nat_tests, above.0, same)
      go false other among later = later among

  -- keys of an interface, of a group and of a group above it, don't rise
  falls : (a g h : ℕ) (x : Ordering) → g < h → ordering_then (nat_cmp a a) (ordering_then (nat_cmp h g) x) ≡ Less → ⊥
  falls a g h x above less = go (nat_cmp h g) (grind (arith, nat_tests)) (rw (nat_cmp_same a) at less)
    where
      go : (o : Ordering) → o ≡ Greater → ordering_then o x ≡ Less → ⊥
      go Less is less = cc
      go Equal is less = cc
      go Greater is less = cc

  module _ (a : Addr) (gs : List Addr) (above : AllByRecursion (λ (b : Addr). nat_cmp a.bits b.bits ≡ Less) gs) where
    above_group : (k : Key) → is_rpt_among gs k ≡ true → a.bits < group_in k
    above_group k among =
        above_all a.bits (group_in k) gs above (second_true (is_on i k && k.rpt) _ among)

    of_group : (k : Key) → is_rpt_of a.bits k ≡ true → group_in k ≡ a.bits
    of_group k of = number_of _ _ (second_true (is_on i k && k.rpt) _ of)

    not_both : (k : Key) → is_rpt_of a.bits k ≡ true → is_rpt_among gs k ≡ false
    not_both k of = refuted (is_rpt_among gs k) (λ among.
        let higher : a.bits < group_in k = above_group k among in
        let same : group_in k ≡ a.bits = of_group k of in absurd (omega arith))

    not_after : (k m : Key) → key_cmp k m ≡ Less → is_rpt_among gs k ≡ true → is_rpt_of a.bits m ≡ false
    unfolding key_cmp addr_cmp
    not_after k m less among = refuted (is_rpt_of a.bits m) (λ of.
        falls i a.bits (group_in k) _ (above_group k among)
        ((λ j. ordering_then
        (nat_cmp (sym (number_of (iface_in k) i (first_true (is_on i k) k.rpt (first_true _ _ among))) j)
        (sym (number_of (iface_in m) i (first_true (is_on i m) m.rpt (first_true _ _ of))) j))
        (ordering_then (nat_cmp (group_in k) (sym (of_group m of) j))
        (ordering_then (option_cmp addr_cmp k.source m.source) (bool_cmp k.rpt m.rpt)))) ∙ less))

  one_or_more : (on here later : Bool) → ((on && here) || (on && later)) ≡ (on && (here || later))
  one_or_more true here later = refl
  one_or_more false here later = refl

  none_of_none : (on : Bool) → (on && false) ≡ false
  none_of_none true = refl
  none_of_none false = refl

  none_pass : (ks : List Key) → [] ≡ filter (is_rpt_among []) ks
  none_pass [] = refl
  none_pass (k ∷ ks) = rw (none_of_none (is_on i k && k.rpt)) (none_pass ks)

  abbrev pub rpt_keys_of : List Key → List Addr → List Key
  rpt_keys_of ks gs = flat_map (λ (a : Addr). filter (is_rpt_of a.bits) ks) gs

  rising_parts : (a : Addr) (gs : List Addr) → IsStrictlySortedBy addr_cmp (a ∷ gs)
      → AllByRecursion (λ (b : Addr). nat_cmp a.bits b.bits ≡ Less) gs × IsStrictlySortedBy addr_cmp gs
  unfolding IsStrictlySortedBy addr_cmp
  rising_parts a gs rise = (rise.0, rise.1)

  -- of groups that rise
  pub keys_among : (ks : List Key) → IsStrictlySortedBy key_cmp ks → (gs : List Addr) → IsStrictlySortedBy addr_cmp gs
      → rpt_keys_of ks gs ≡ filter (is_rpt_among gs) ks
  keys_among ks sorted [] rise = none_pass ks
  keys_among ks sorted (a ∷ gs) rise =
      let parts : AllByRecursion (λ (b : Addr). nat_cmp a.bits b.bits ≡ Less) gs × IsStrictlySortedBy addr_cmp gs =
      rising_parts a gs rise in
      ap (λ ms. filter (is_rpt_of a.bits) ks ++ ms) (keys_among ks sorted gs parts.1)
      ∙ filters_joined (is_rpt_of a.bits) (is_rpt_among gs) (not_both a gs parts.0) (not_after a gs parts.0) ks sorted
      ∙ filter_agree _ (is_rpt_among (a ∷ gs))
      (λ k. one_or_more (is_on i k && k.rpt) (is_of_group a.bits k)
      (list_any (λ (b : Addr). group_in k == b.bits) gs)) ks

-- ---- the (S,G,rpt) keys among the rows of one group

module _ {R : Type 0} (i g : ℕ) where
  abbrev of_group_at : Table R → Table R
  of_group_at t = filter (λ e. is_on i e.0 && is_of_group g e.0) t

  abbrev rpt_rows : Table R → Table R
  rpt_rows t = filter (λ (e : Key × R). e.0.rpt) (of_group_at t)

  abbrev pub rpt_keys_at : Table R → List Key
  rpt_keys_at t = filter (λ k. is_on i k && k.rpt && is_of_group g k) (keys_in t)

  rpt_step : (e : Key × R) (t : Table R) (a b c : Bool) → e.0.rpt ≡ c → keys_in (rpt_rows t) ≡ rpt_keys_at t
      → keys_in (filter (λ (x : Key × R). x.0.rpt) (cond (a && b) (e ∷ of_group_at t) (of_group_at t)))
      ≡ cond ((a && c) && b) (e.0 ∷ rpt_keys_at t) (rpt_keys_at t)
  unfolding keys_in
  rpt_step e t true true true is rest =
      ap (λ (b : Bool). keys_in (cond b (e ∷ rpt_rows t) (rpt_rows t))) is ∙ ap (λ ks. e.0 ∷ ks) rest
  rpt_step e t true true false is rest = ap (λ (b : Bool). keys_in (cond b (e ∷ rpt_rows t) (rpt_rows t))) is ∙ rest
  rpt_step e t true false true is rest = rest
  rpt_step e t true false false is rest = rest
  rpt_step e t false b c is rest = rest

  pub rpt_keys_of_group : (t : Table R) → keys_in (rpt_rows t) ≡ rpt_keys_at t
  unfolding keys_in
  rpt_keys_of_group [] = refl
  rpt_keys_of_group (e ∷ t) = rpt_step e t (is_on i e.0) (is_of_group g e.0) e.0.rpt refl (rpt_keys_of_group t)
