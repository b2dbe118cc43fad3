-- In a table whose keys rise, a key is listed once: what is removed at it is all that is dropped.
use Rattle.std.{proofs.Common.{◌≡◌, Bool, true, [], ◌∷◌, refl, ap, cond, not, map, arith}, specs.{declared.cmp.Ordering.TheVariants.Less, List.{AllByRecursion, Sorted.IsStrictlySortedBy}, Map.remove_entry, BTreeMap.is_at, Prelude.{filter, if◌then◌else◌}}}
use Rattle.pim_types.{specs.{declared.fact.Key.Key, Keys.{key_cmp, same_key}}, proofs.Keys.equal_keys}
use Rattle.pim_model.{specs.Tables.{Table, drop_at, drop_where}}

module _ {R : Type 0} (k : Key) where
  without : Table R → Table R
  without t = filter (λ e. not (same_key k e.0)) t

  -- below all keys of a table: not among them
  kept_whole : (t : Table R) → AllByRecursion (λ y. key_cmp k y ≡ Less) (map (λ e. e.0) t) → without t ≡ t
  unfolding without
  kept_whole [] above = refl
  kept_whole (y ∷ t) above = rw above.0 (ap (λ s. y ∷ s) (kept_whole t above.1))

  pub moved_above : (x : Key) → same_key k x ≡ true → (t : Table R)
      → AllByRecursion (λ y. key_cmp x y ≡ Less) (map (λ e. e.0) t)
      → AllByRecursion (λ y. key_cmp k y ≡ Less) (map (λ e. e.0) t)
  moved_above x e t above = rw (equal_keys k x e) above

  removed_first : (e : Key × R) (t : Table R) (b : Bool) → same_key k e.0 ≡ b
      → AllByRecursion (λ y. key_cmp e.0 y ≡ Less) (map (λ e. e.0) t) → remove_entry (is_at (key_cmp k)) t ≡ without t
      → cond b t (e ∷ remove_entry (is_at (key_cmp k)) t) ≡ (if not b then e ∷ without t else without t)
  removed_first e t b h above rest = grind (arith, kept_whole, moved_above)

  removed : (t : Table R) → IsStrictlySortedBy key_cmp (map (λ e. e.0) t)
      → remove_entry (is_at (key_cmp k)) t ≡ without t
  unfolding without IsStrictlySortedBy
  removed [] s = refl
  removed (e ∷ t) s = removed_first e t (same_key k e.0) refl s.0 (removed t s.1)

  pub removed_is_dropped : (t : Table R) → IsStrictlySortedBy key_cmp (map (λ e. e.0) t)
      → remove_entry (is_at (key_cmp k)) t ≡ drop_at t k
  unfolding drop_at drop_where without
  removed_is_dropped t s = removed t s
