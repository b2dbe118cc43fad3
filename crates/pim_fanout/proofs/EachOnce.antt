-- Names of sources that are sorted, of which each is kept once.
use Rattle.std.{proofs.{Common.{◌≡◌, Bool, true, false, cond, ◌||◌, List, [], ◌∷◌, map, refl, ap, sym, ◌∙◌}, lemmas.List.{Kept.IsStrictlySortedBy-dedup, Sorted.list_any-IsPermutation}}, specs.{List.{AllByRecursion, dedup, dedup_from, list_any, Sorted.{IsPermutation, IsSortedByKey, IsStrictlySortedBy}}, Cmp.on_total, declared.cmp.Ordering.{Ordering, TheVariants.Less}}}
use Rattle.pim_types.{specs.{Keys.{key_cmp, same_key}, declared.{fact.Key.Key, name.SourceGroup.SourceGroup}}, proofs.Keys.{equal_keys, key_cmp_total}}
use Rattle.pim_fanout.{specs.{Before.name_key, Named.keys_of}}

abbrev pub by_key : SourceGroup → SourceGroup → Ordering
by_key x y = key_cmp (name_key x) (name_key y)

abbrev pub same_name : SourceGroup → SourceGroup → Bool
same_name x y = same_key (name_key x) (name_key y)

-- ---- the keys of what rises by them rise

all_below : (k : Key) (names : List SourceGroup) → AllByRecursion (λ y. key_cmp k (name_key y) ≡ Less) names
    → AllByRecursion (λ q. key_cmp k q ≡ Less) (map name_key names)
all_below k [] below = tt
all_below k (x ∷ names) below = (below.0, all_below k names below.1)

keys_rise : (names : List SourceGroup) → IsStrictlySortedBy by_key names → IsStrictlySortedBy key_cmp (keys_of names)
unfolding IsStrictlySortedBy
keys_rise [] rise = tt
keys_rise (x ∷ names) rise = (all_below (name_key x) names rise.0, keys_rise names rise.1)

pub sorted_once : (names : List SourceGroup) → IsSortedByKey name_key key_cmp names
    → IsStrictlySortedBy key_cmp (keys_of (dedup same_name names))
sorted_once names sorted =
    keys_rise (dedup same_name names) (IsStrictlySortedBy-dedup (on_total name_key key_cmp_total) (λ x y. refl) names sorted)

-- ---- who is among them stays

module _ (p : Key → Bool) where
  abbrev q : SourceGroup → Bool
  q x = p (name_key x)

  either : (a b c : Bool) → a ≡ b → (b || c) ≡ (b || (a || c))
  either true true c e = refl
  either true false c e = let none : ⊥ = cc in absurd none
  either false true c e = let none : ⊥ = cc in absurd none
  either false false c e = refl

  abbrev KeepsFrom : SourceGroup → List SourceGroup → Type 0
  KeepsFrom k names = list_any q (dedup_from same_name k names) ≡ (q k || list_any q names)

  one_more : (k x : SourceGroup) (names : List SourceGroup) (b : Bool) → same_name x k ≡ b → KeepsFrom k names → KeepsFrom x names
      → list_any q (cond b (dedup_from same_name k names) (k ∷ dedup_from same_name x names)) ≡ (q k || (q x || list_any q names))
  one_more k x names true e last next =
      last ∙ either (q x) (q k) (list_any q names) (ap p (equal_keys (name_key x) (name_key k) e))
  one_more k x names false e last next = ap (λ (b : Bool). q k || b) next

  kept_from : (k : SourceGroup) (names : List SourceGroup) → KeepsFrom k names
  kept_from k [] = refl
  kept_from k (x ∷ names) = one_more k x names (same_name x k) refl (kept_from k names) (kept_from x names)

  kept : (names : List SourceGroup) → list_any q (dedup same_name names) ≡ list_any q names
  kept [] = refl
  kept (x ∷ names) = kept_from x names

  any_key : (names : List SourceGroup) → list_any p (keys_of names) ≡ list_any q names
  any_key [] = refl
  any_key (x ∷ names) = ap (λ (b : Bool). q x || b) (any_key names)

  pub same_once : (old sorted new : List SourceGroup) → IsPermutation old sorted → new ≡ dedup same_name sorted
      → list_any p (keys_of new) ≡ list_any p (keys_of old)
  same_once old sorted new moved is =
      any_key new
      ∙ (ap (list_any q) is
      ∙ (kept sorted ∙ (sym (list_any-IsPermutation q old sorted moved) ∙ sym (any_key old))))
