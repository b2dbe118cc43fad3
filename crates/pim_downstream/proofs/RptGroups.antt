-- The groups of (*,G) among keys, gathered one by one.
use Rattle.std.{proofs.{Common.{◌≡◌, ◌<◌, ◌≤◌, ◌==◌, ◌&&◌, ◌||◌, ◌+◌, ℕ, Bool, true, false, List, [], ◌∷◌, filter, get_or, length, take, refl, sym, ap, subst, ◌∙◌, arith}, lemmas.{Bool.Decides.nat_tests, List.{take_all, Elements.filter_agree, Folds.list_any_more}}}, specs.{BTreeSet.insert_key, List.{list_any, Sorted.IsStrictlySortedBy}, Ordering.{is_eq, match_ordering, nat_cmp, ordering_then}, declared.cmp.Ordering.{Ordering, TheVariants.{Less, Equal, Greater}}}}
use Rattle.pim_ip.{specs.declared.addr.Addr.Addr}
use Rattle.pim_types.{specs.{declared.fact.Key.Key, Keys.{addr_cmp, group_in, is_of_group, is_on, key_cmp, same_key, star_key}}, proofs.Keys.{equal_keys, nat_cmp_same, same_key_same}}
use Rattle.pim_model.{specs.Downstream.is_named}
use Rattle.pim_downstream.{specs.Naming.is_rpt_joined}

-- ---- a group put among others

last : (b : Bool) → (b || false) ≡ (false || b)
last true = refl
last false = refl

turned : (a b : Bool) → (a || b) ≡ (b || a)
turned true true = refl
turned true false = refl
turned false true = refl
turned false false = refl

again : (a b : Bool) → (a || b) ≡ ((a || b) || a)
again true b = refl
again false true = refl
again false false = refl

grouped : (a b c : Bool) → (a || (b || c)) ≡ ((a || b) || c)
grouped true b c = refl
grouped false b c = refl

equal_of : (m n : ℕ) → nat_cmp m n ≡ Equal → m ≡ n
equal_of m n e = grind (arith, nat_tests)

abbrev pub has_group : ℕ → List Addr → Bool
has_group g gs = list_any (λ (a : Addr). g == a.bits) gs

put_step : (g : ℕ) (b a : Addr) (gs more : List Addr) (o : Ordering) → nat_cmp b.bits a.bits ≡ o
    → has_group g more ≡ (has_group g gs || (g == b.bits))
    → has_group g (match_ordering o (b ∷ a ∷ gs) (a ∷ gs) (a ∷ more)) ≡ (has_group g (a ∷ gs) || (g == b.bits))
put_step g b a gs more Less is rest = turned (g == b.bits) (has_group g (a ∷ gs))
put_step g b a gs more Equal is rest =
    again (g == a.bits) (has_group g gs)
    ∙ ap (λ (n : ℕ). has_group g (a ∷ gs) || (g == n)) (sym (equal_of b.bits a.bits is))
put_step g b a gs more Greater is rest =
    ap (λ (x : Bool). (g == a.bits) || x) rest ∙ grouped (g == a.bits) (has_group g gs) (g == b.bits)

group_put : (g : ℕ) (b : Addr) (gs : List Addr)
    → has_group g (insert_key addr_cmp gs b) ≡ (has_group g gs || (g == b.bits))
unfolding addr_cmp
group_put g b [] = last (g == b.bits)
group_put g b (a ∷ gs) = put_step g b a gs (insert_key addr_cmp gs b) (nat_cmp b.bits a.bits) refl (group_put g b gs)

-- ---- keys of (*,G)

numbers_tie : (m n : ℕ) → is_eq (nat_cmp m n) ≡ (m == n)
numbers_tie m n = grind (arith, nat_tests)

tie_alone : (o : Ordering) → is_eq (ordering_then o Equal) ≡ is_eq o
tie_alone Less = refl
tie_alone Equal = refl
tie_alone Greater = refl

module _ (i : ℕ) where
  stars_tie : (g h : ℕ) → same_key (star_key i g) (star_key i h) ≡ (g == h)
  unfolding key_cmp addr_cmp
  stars_tie g h =
      ap (λ (o : Ordering). is_eq (ordering_then o (ordering_then (nat_cmp g h) Equal))) (nat_cmp_same i)
      ∙ tie_alone (nat_cmp g h) ∙ numbers_tie g h

  star_is : (g : ℕ) (k : Key) → same_key (star_key i (group_in k)) k ≡ true
      → same_key (star_key i g) k ≡ (g == group_in k)
  star_is g k star =
      ap (λ (q : Key). same_key (star_key i g) q) (sym (equal_keys (star_key i (group_in k)) k star))
      ∙ stars_tie g (group_in k)

  no_star : (g : ℕ) (k : Key) → same_key (star_key i (group_in k)) k ≡ false → same_key (star_key i g) k ≡ false
  no_star g k other = go (same_key (star_key i g) k) refl
    where
      go : (b : Bool) → same_key (star_key i g) k ≡ b → b ≡ false
      go true same =
          sym (subst (λ (q : Key). same_key (star_key i (group_in q)) q ≡ true) (equal_keys (star_key i g) k same)
          (same_key_same (star_key i g)))
          ∙ other
      go false apart = refl

  -- the groups of the keys so far
  pub record AreGroups (keys : List Key) (gs : List Addr) : Type 0 where
    pub rise : IsStrictlySortedBy addr_cmp gs
    pub each : (g : ℕ) → has_group g gs ≡ list_any (same_key (star_key i g)) keys

  pub no_groups : (joined : List Key) (gs : List Addr) → IsStrictlySortedBy addr_cmp gs → gs ≡ []
      → AreGroups (take 0 joined) gs
  no_groups joined gs rise none = record { rise = rise; each = λ g. ap (has_group g) none }

  module _ (joined : List Key) (n : ℕ) (k d : Key) (gs : List Addr) (are : AreGroups (take n joined) gs)
      (inside : n < length joined) (is : k ≡ get_or joined n d) where
    one_more : (g : ℕ) → list_any (same_key (star_key i g)) (take (n + 1) joined)
        ≡ (has_group g gs || same_key (star_key i g) k)
    one_more g =
        list_any_more (same_key (star_key i g)) joined n d inside
        ∙ (λ j. sym (are.each g) j || same_key (star_key i g) (sym is j))

    pub another_group : (more : List Addr) → same_key (star_key i (group_in k)) k ≡ true
        → IsStrictlySortedBy addr_cmp more → more ≡ insert_key addr_cmp gs k.group → AreGroups (take (n + 1) joined) more
    another_group more star rise put = record {
      rise = rise;
      each = λ g. ap (has_group g) put ∙ group_put g k.group gs
          ∙ ap (λ (b : Bool). has_group g gs || b) (sym (star_is g k star)) ∙ sym (one_more g);
    }

    pub no_other_group : same_key (star_key i (group_in k)) k ≡ false → AreGroups (take (n + 1) joined) gs
    no_other_group other = record {
      rise = are.rise;
      each = λ g. sym (turned (has_group g gs) false)
          ∙ ap (λ (b : Bool). has_group g gs || b) (sym (no_star g k other)) ∙ sym (one_more g);
    }

  pub all_groups : (joined : List Key) (n : ℕ) (gs : List Addr) → AreGroups (take n joined) gs → length joined ≤ n
      → (g : ℕ) → has_group g gs ≡ is_named joined (star_key i g)
  unfolding is_named
  all_groups joined n gs are past g =
      are.each g ∙ ap (λ ks. list_any (same_key (star_key i g)) ks) (take_all n joined past)

  -- the keys of these groups are those of the joined ones
  pub rpt_keys_are : (joined ks : List Key) (gs : List Addr)
      → ((g : ℕ) → has_group g gs ≡ is_named joined (star_key i g))
      → filter (λ k. is_on i k && k.rpt && has_group (group_in k) gs) ks ≡ filter (is_rpt_joined i joined) ks
  rpt_keys_are joined ks gs each =
      filter_agree _ (is_rpt_joined i joined) (λ k. ap (λ (b : Bool). is_on i k && k.rpt && b) (each (group_in k))) ks

  -- the group of a key of (*,G) that alone is joined
  alone : (b : Bool) → b ≡ (b || false)
  alone true = refl
  alone false = refl

  pub one_star : (joined : List Key) (k : Key) → joined ≡ k ∷ [] → same_key (star_key i (group_in k)) k ≡ true → (g : ℕ)
      → (g == group_in k) ≡ is_named joined (star_key i g)
  unfolding is_named
  one_star joined k is star g =
      sym (star_is g k star) ∙ alone (same_key (star_key i g) k)
      ∙ ap (λ ks. list_any (same_key (star_key i g)) ks) (sym is)

  -- the keys of that group are those of the joined ones
  pub rpt_keys_of_one : (joined ks : List Key) (h : ℕ) → ((g : ℕ) → (g == h) ≡ is_named joined (star_key i g))
      → filter (λ k. is_on i k && k.rpt && is_of_group h k) ks ≡ filter (is_rpt_joined i joined) ks
  rpt_keys_of_one joined ks h each =
      filter_agree _ (is_rpt_joined i joined) (λ k. ap (λ (b : Bool). is_on i k && k.rpt && b) (each (group_in k))) ks
