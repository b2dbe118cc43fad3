-- Rows at places, and the table that has the place of each key.
use Rattle.std.{specs.{List.{filter_map, Sorted.IsStrictlySortedBy}, Prelude.{◌≡◌, ℕ, Option, Some, option_map}}}
use Rattle.pim_types.{specs.{declared.fact.Key.Key, Keys.key_cmp}}
use Rattle.pim_model.{specs.Tables.{Table, keys_in, row_at}}

module _ {R : Type 0} where
  -- the rows, in the order of the table of places
  abbrev pub rows_placed : (ℕ → Option (Key × R)) → Table ℕ → Table R
  rows_placed at places = filter_map (λ e. at e.1) places

  -- the key of the row at a place, if one stands there
  abbrev pub key_placed : (ℕ → Option (Key × R)) → ℕ → Option Key
  key_placed at p = option_map (λ (e : Key × R). e.0) (at p)

  -- The table has the place of each row, and no other place.
  pub record ArePlaced (at : ℕ → Option (Key × R)) (places : Table ℕ) : Type 0 where
    pub rise : IsStrictlySortedBy key_cmp (keys_in places)
    pub there : (k : Key) (p : ℕ) → row_at places k ≡ Some p → key_placed at p ≡ Some k
    pub told : (k : Key) (p : ℕ) → key_placed at p ≡ Some k → row_at places k ≡ Some p
