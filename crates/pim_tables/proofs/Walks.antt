-- The rows of an interface, or of a group on it, stand together: a walk that begins at the first of them is over at the
-- first that isn't one.
use Rattle.std.{proofs.{Common.{◌≡◌, ◌≤◌, ◌==◌, ◌&&◌, ◌||◌, ℕ, Bool, true, false, cond, [], ◌∷◌, Option, Some, None, nat_le, nat_lt, refl, sym, ap, subst, ◌∙◌, arith}, lemmas.{Bool.Decides.nat_tests, Grind.common_steps, List.Kept.IsStrictlySortedBy-filter}}, specs.{Cmp.{first_so, second_so}, List.{AllByRecursion, filter, Sorted.IsStrictlySortedBy}, Option.option_cmp, Ordering.{bool_cmp, is_le, nat_cmp, ordering_then}, declared.cmp.Ordering.{Ordering, TheVariants.{Less, Equal, Greater}}}}
use Rattle.pim_ip.{specs.declared.addr.Addr.Addr}
use Rattle.pim_types.{specs.{declared.fact.Key.Key, Keys.{addr_cmp, group_in, iface_in, key_cmp}}}
use Rattle.pim_model.{specs.Tables.{Table, keys_in}}
use Rattle.law_settled.{proofs.ListLaws.{each_more, each_passes, filter_within}}
use Rattle.pim_tables.{specs.RowsOf.{RiseFrom, first_of, is_of}}

-- ---- the interface and the group of a key, in the order of keys

-- not below, by the interface and then by the group
abbrev not_below : ℕ → ℕ → ℕ → ℕ → Bool
not_below m g n h = nat_lt m n || ((m == n) && nat_le g h)

by_parts : (m g n h : ℕ) (o : Ordering) → is_le (ordering_then (nat_cmp m n) (ordering_then (nat_cmp g h) o)) ≡ true
    → not_below m g n h ≡ true
by_parts m g n h o e = go (nat_cmp m n) (nat_cmp g h) refl refl e
  where
    go : (a b : Ordering) → nat_cmp m n ≡ a → nat_cmp g h ≡ b → is_le (ordering_then a (ordering_then b o)) ≡ true
        → not_below m g n h ≡ true
    go Less b first second e = grind (arith, nat_tests, common_steps, first)
    go Equal Less first second e = grind (arith, nat_tests, common_steps, first, second)
    go Equal Equal first second e = grind (arith, nat_tests, common_steps, first, second)
    go Equal Greater first second e = cc
    go Greater b first second e = cc

above_on : (i m h n j : ℕ) → not_below i 0 m h ≡ true → (m == i) ≡ false → not_below m h n j ≡ true → (n == i) ≡ false
above_on i m h n j e other f = grind (arith, nat_tests, e, other, f)

above_at : (i g m h n j : ℕ) → not_below i g m h ≡ true → ((m == i) && (h == g)) ≡ false → not_below m h n j ≡ true
    → ((n == i) && (j == g)) ≡ false
above_at i g m h n j e other f = grind (arith, nat_tests, e, other, f)

key_not_below : (k q : Key) → is_le (key_cmp k q) ≡ true
    → not_below (iface_in k) (group_in k) (iface_in q) (group_in q) ≡ true
unfolding key_cmp addr_cmp
key_not_below k q e = by_parts (iface_in k) (group_in k) (iface_in q) (group_in q) _ e

-- after a key that is not one of them comes none
above : (i : ℕ) (group : Option Addr) (k q : Key) → is_le (key_cmp (first_of i group) k) ≡ true
    → is_of i group k ≡ false → key_cmp k q ≡ Less → is_of i group q ≡ false
above i None k q e other less =
    above_on i (iface_in k) (group_in k) (iface_in q) (group_in q) (key_not_below (first_of i None) k e) other
    (key_not_below k q (ap is_le less))
above i (Some g) k q e other less =
    above_at i g.bits (iface_in k) (group_in k) (iface_in q) (group_in q)
    (key_not_below (first_of i (Some g)) k e) other (key_not_below k q (ap is_le less))

-- none of them is below the first
least_of : (i g m h : ℕ) (source : Option Addr) (rpt : Bool) → (m == i) ≡ true → g ≤ h
    → is_le (ordering_then (nat_cmp i m) (ordering_then (nat_cmp g h)
    (ordering_then (option_cmp (λ (a b : Addr). nat_cmp a.bits b.bits) None source) (bool_cmp false rpt)))) ≡ true
least_of i g m h None true e f = grind (arith, nat_tests, common_steps, e, f)
least_of i g m h None false e f = grind (arith, nat_tests, common_steps, e, f)
least_of i g m h (Some src) rpt e f = grind (arith, nat_tests, common_steps, e, f)

same_group : (g h : ℕ) → (h == g) ≡ true → g ≤ h
same_group g h e = grind (arith, nat_tests, e)

least : (i : ℕ) (group : Option Addr) (k : Key) → is_of i group k ≡ true → is_le (key_cmp (first_of i group) k) ≡ true
unfolding key_cmp addr_cmp
least i None k e = least_of i 0 (iface_in k) (group_in k) k.source k.rpt e (omega arith)
least i (Some g) k e =
    least_of i g.bits (iface_in k) (group_in k) k.source k.rpt (first_so _ _ e)
    (same_group g.bits (group_in k) (second_so _ _ e))

-- ---- walks

module _ {R : Type 0} (i : ℕ) (group : Option Addr) where
  abbrev is_one : Key × R → Bool
  is_one e = is_of i group e.0

  abbrev of_them : Table R → Table R
  of_them t = filter is_one t

  pub risen : (e : Key × R) (t : Table R) → RiseFrom i group (e ∷ t) → RiseFrom i group t
  unfolding keys_in IsStrictlySortedBy
  risen e t f = record { rise = (f.rise).1; from = (f.from).1 }

  none_later : (k : Key) (t : Table R) → is_le (key_cmp (first_of i group) k) ≡ true → is_of i group k ≡ false
      → AllByRecursion (λ q. key_cmp k q ≡ Less) (keys_in t)
      → of_them t ≡ []
  unfolding keys_in
  none_later k [] e other f = refl
  none_later k (x ∷ t) e other f = rw (above i group k x.0 e other f.0) (none_later k t e other f.1)

  -- where the first isn't one of them, none is left
  pub is_over : (e : Key × R) (t : Table R) → RiseFrom i group (e ∷ t) → is_one e ≡ false
      → (of_them (e ∷ t) ≡ []) × (of_them t ≡ [])
  unfolding keys_in IsStrictlySortedBy
  is_over e t f other =
      let later : of_them t ≡ [] = none_later e.0 t (f.from).0 other (f.rise).0 in (rw other later, later)

  -- ---- where a walk begins

  abbrev pub from_first : Key × R → Bool
  from_first e = is_le (key_cmp (first_of i group) e.0) && true

  one_is_from : (e : Key × R) → is_one e ≡ true → from_first e ≡ true
  one_is_from e here = rw (least i group e.0 here) refl

  pub all_of_them : (t : Table R) → of_them (filter from_first t) ≡ of_them t
  all_of_them t = filter_within is_one from_first one_is_from t

  keys_kept : (p : Key → Bool) (t : Table R) → keys_in (filter (λ e. p e.0) t) ≡ filter p (keys_in t)
  unfolding keys_in
  keys_kept p [] = refl
  keys_kept p (e ∷ t) = go (p e.0) (keys_kept p t)
    where
      go : (b : Bool) → keys_in (filter (λ e. p e.0) t) ≡ filter p (keys_in t)
          → keys_in (cond b (e ∷ filter (λ e. p e.0) t) (filter (λ e. p e.0) t))
          ≡ cond b (e.0 ∷ filter p (keys_in t)) (filter p (keys_in t))
      go true later = ap (λ ks. e.0 ∷ ks) later
      go false later = later

  pub begun : (t : Table R) → IsStrictlySortedBy key_cmp (keys_in t) → RiseFrom i group (filter from_first t)
  begun t sorted = record {
    rise = subst (IsStrictlySortedBy key_cmp) (sym (keys_kept (λ k. is_le (key_cmp (first_of i group) k) && true) t))
        (IsStrictlySortedBy-filter key_cmp (λ k. is_le (key_cmp (first_of i group) k) && true) (keys_in t) sorted);
    from = each_more (λ e. from_first e ≡ true) (λ e. is_le (key_cmp (first_of i group) e.0) ≡ true)
        (λ e f. first_so _ _ f) (filter from_first t) (each_passes from_first t);
  }

  pub begun_at : (k : Key) (t walked : Table R) → k ≡ first_of i group
      → walked ≡ filter (λ e. is_le (key_cmp k e.0) && true) t → walked ≡ filter from_first t
  begun_at k t walked is e = e ∙ ap (λ (q : Key). filter (λ (x : Key × R). is_le (key_cmp q x.0) && true) t) is
