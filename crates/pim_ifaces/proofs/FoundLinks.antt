-- The first link that an address is on, and whether it is an own address, by the one subnet that it lies in.
use Rattle.std.{proofs.{Common.{◌≡◌, ◌<◌, ◌≤◌, ◌+◌, ◌-◌, ◌/◌, ◌^◌, ◌==◌, ◌&&◌, ℕ, zero, suc, Bool, true, false, List, [], ◌∷◌, None, Option, Some, length, refl, sym, ap, ◌∙◌, subst, arith, eq-eqb, eqb-true}, lemmas.Bool.{or_left, or_right, Decides.nat_tests}}, specs.{List.{find, list_any, range_with_len, slice_get}, Option.option_map_or}}
use Rattle.pim_ip.{specs.Prefixes.contains}
use Rattle.pim_types.{specs.{declared.{config.InterfaceConfig.InterfaceConfig, fact.InterfaceRow.InterfaceRow}, Keys.iface_key}}
use Rattle.pim_model.{specs.{State.{Addressing, InterfaceTable}, Tables.{Table, has_row}, Unicast.{is_on_link_among, link_among, subnet}}}
use Rattle.pim_ifaces.{specs.Subnets.{Finds, lies_in}}

-- ---- the one number that passes

module _ (test : ℕ → Bool) where
  none_found : (k m : ℕ) → ((i : ℕ) → test i ≡ false) → find test (range_with_len k m) ≡ None
  none_found k zero none = refl
  none_found k (suc m) none = rw (none k) (none_found (k + 1) m none)

  one_found : (n k m : ℕ) → k ≤ n → n < k + m → test n ≡ true → ((i : ℕ) → test i ≡ true → i ≡ n)
      → find test (range_with_len k m) ≡ Some n
  one_found n k zero low high is only = absurd (omega (arith, low, high))
  one_found n k (suc m) low high is only =
      by_test (test k) refl (λ (p : k + 1 ≤ n). one_found n (k + 1) m p (omega (arith, high)) is only) where
        past : test k ≡ false → (b : Bool) → (k == n) ≡ b → k + 1 ≤ n
        past e true f =
            let here : test k ≡ true = ap test (eqb-true _ _ f) ∙ is in
            let no : ⊥ = cc in absurd no
        past e false f = grind (arith, nat_tests, low, f)

        by_test : (b : Bool) → test k ≡ b → (k + 1 ≤ n → find test (range_with_len (k + 1) m) ≡ Some n)
            → find test (range_with_len k (suc m)) ≡ Some n
        by_test true e later = rw e (ap Some (only k e))
        by_test false e later = rw e (later (past e (k == n) refl))

-- ---- links

module _ (cs : Addressing) (rows : Table InterfaceRow) (a : ℕ) where
  if_lies : (i : ℕ) → is_on_link_among cs rows a i ≡ (has_row rows (iface_key i) && lies_in cs.interfaces a i)
  unfolding is_on_link_among
  if_lies i = refl

  -- where an address lies in the one subnet, no other interface passes
  only_one : (n : ℕ) → Finds cs.interfaces a (Some n) → (i : ℕ) → is_on_link_among cs rows a i ≡ true → i ≡ n
  only_one n found i e = ap (λ (o : Option ℕ). option_map_or (λ x. x) o 0) (sym (found.only i (both (has_row rows (iface_key i)) _ (sym (if_lies i) ∙ e)))) where
    both : (b d : Bool) → (b && d) ≡ true → d ≡ true
    both b d e = grind arith

  pub nowhere : Finds cs.interfaces a None → link_among cs rows a ≡ None
  unfolding link_among
  nowhere found = none_found (is_on_link_among cs rows a) 0 (length cs.interfaces) (λ i. if_lies i ∙ fails (has_row rows (iface_key i)) i (lies_in cs.interfaces a i) refl) where
    fails : (b : Bool) (i : ℕ) (d : Bool) → lies_in cs.interfaces a i ≡ d → (b && d) ≡ false
    fails b i true e = let f = found.only i e in let no : ⊥ = cc in absurd no
    fails true i false e = refl
    fails false i false e = refl

  pub one_up : (n : ℕ) → Finds cs.interfaces a (Some n) → has_row rows (iface_key n) ≡ true → n < length cs.interfaces
      → link_among cs rows a ≡ Some n
  unfolding link_among
  one_up n found up within =
      one_found (is_on_link_among cs rows a) n 0 (length cs.interfaces) (omega arith) (omega (arith, within))
      (if_lies n ∙ rw (up, found.lies) refl) (only_one n found)

  pub one_down : (n : ℕ) → Finds cs.interfaces a (Some n) → has_row rows (iface_key n) ≡ false → link_among cs rows a ≡ None
  unfolding link_among
  one_down n found down =
      none_found (is_on_link_among cs rows a) 0 (length cs.interfaces) (λ i. by_test i (is_on_link_among cs rows a i) refl) where
        by_test : (i : ℕ) (b : Bool) → is_on_link_among cs rows a i ≡ b → is_on_link_among cs rows a i ≡ false
        by_test i false e = e
        by_test i true e =
            ap (is_on_link_among cs rows a) (only_one n found i e)
            ∙ (if_lies n ∙ ap (λ (b : Bool). b && lies_in cs.interfaces a n) down)

-- ---- own addresses

module _ (q : InterfaceConfig → Bool) where
  none_passes : (cs : List InterfaceConfig) → ((i : ℕ) → option_map_or q (slice_get cs i) false ≡ false)
      → list_any q cs ≡ false
  none_passes [] none = refl
  none_passes (c ∷ cs) none = rw (none 0) (none_passes cs (λ i. none (suc i)))

  one_passes : (cs : List InterfaceConfig) (n : ℕ) → option_map_or q (slice_get cs n) false ≡ true → list_any q cs ≡ true
  one_passes [] n e = cc
  one_passes (c ∷ cs) zero e = or_left (q c) (list_any q cs) e
  one_passes (c ∷ cs) (suc n) e = or_right (q c) (list_any q cs) (one_passes cs n e)

module _ (cs : List InterfaceConfig) (a : ℕ) where
  abbrev has : InterfaceConfig → Bool
  has c = c.address.bits == a

  own_lies : (o : Option InterfaceConfig) → option_map_or has o false ≡ true
      → option_map_or (λ c. contains (subnet c) a) o false ≡ true
  unfolding contains
  own_lies None e = cc
  own_lies (Some c) e = eq-eqb _ _ (ap (λ n. n / 2 ^ (32 - c.length)) (sym (eqb-true _ _ e)))

  pub own_nowhere : Finds cs a None → list_any has cs ≡ false
  own_nowhere found = none_passes has cs (λ i. by_test i (option_map_or has (slice_get cs i) false) refl) where
    by_test : (i : ℕ) (b : Bool) → option_map_or has (slice_get cs i) false ≡ b → option_map_or has (slice_get cs i) false ≡ false
    by_test i false e = e
    by_test i true e = let f = found.only i (own_lies (slice_get cs i) e) in let no : ⊥ = cc in absurd no

  pub own_at : (n : ℕ) → Finds cs a (Some n) → option_map_or has (slice_get cs n) false ≡ list_any has cs
  own_at n found = by_own (option_map_or has (slice_get cs n) false) refl where
    by_test : (i : ℕ) (b : Bool) → option_map_or has (slice_get cs n) false ≡ false
        → option_map_or has (slice_get cs i) false ≡ b → option_map_or has (slice_get cs i) false ≡ false
    by_test i false f e = e
    by_test i true f e =
        ap (λ (o : Option ℕ). option_map_or has (slice_get cs (option_map_or (λ x. x) o 0)) false)
        (sym (found.only i (own_lies (slice_get cs i) e)))
        ∙ f

    by_own : (b : Bool) → option_map_or has (slice_get cs n) false ≡ b → b ≡ list_any has cs
    by_own true e = sym (one_passes has cs n e)
    by_own false e = sym (none_passes has cs (λ i. by_test i (option_map_or has (slice_get cs i) false) e refl))

pub seen : (held now : InterfaceTable) (a : ℕ) (r x : Option ℕ) → held ≡ now → r ≡ x
    → Finds held.configured.interfaces a r → Finds now.configured.interfaces a x
seen held now a r x e f found =
    subst (λ (t : InterfaceTable). Finds t.configured.interfaces a x) e (subst (Finds held.configured.interfaces a) f found)
