-- The row of a source whose keepalive timer is set.
use Rattle.std.{proofs.Common.{◌≡◌, ℕ, true, false, Option, Some, None, is_some, refl, sym, ap, ◌∙◌}, specs.List.Sorted.IsStrictlySortedBy}
use Rattle.pim_types.{specs.{declared.fact.{Key.Key, SourceRow.SourceRow}, Keys.key_cmp}}
use Rattle.pim_model.{specs.Tables.{Table, change_row, has_row, keys_in, put, row_at}}
use Rattle.pim_tables.{proofs.Updates.put_updated}
use Rattle.pim_store.{specs.PimTables.kept_alive}

abbrev pub with_end : ℕ → SourceRow → SourceRow
with_end end row = record row { keepalive = Some end }

module _ (end : ℕ) (k : Key) (t : Table SourceRow) where
  pub alive_there : IsStrictlySortedBy key_cmp (keys_in t) → has_row t k ≡ true
      → change_row (λ row. Some (with_end end row)) k t ≡ put t k (kept_alive end (row_at t k))
  unfolding has_row
  alive_there sorted there = go (row_at t k) refl there
    where
      go : (o : Option SourceRow) → row_at t k ≡ o → is_some o ≡ true
          → change_row (λ row. Some (with_end end row)) k t ≡ put t k (kept_alive end o)
      go None is some = cc
      go (Some row) is some = sym (put_updated k (with_end end) t row (kept_alive end (Some row)) is refl sorted)

  pub alive_new : has_row t k ≡ false
      → put t k (record { keepalive = Some end; spt = false }) ≡ put t k (kept_alive end (row_at t k))
  unfolding has_row
  alive_new absent = go (row_at t k) absent
    where
      go : (o : Option SourceRow) → is_some o ≡ false
          → put t k (record { keepalive = Some end; spt = false }) ≡ put t k (kept_alive end o)
      go None none = refl
      go (Some row) none = cc

  -- what is said of the row that is there
  pub alive_kept : {P : Type 0} (q : Key) → k ≡ q → ((before : SourceRow) → row_at t k ≡ Some before → P)
      → has_row t q ≡ true → P
  unfolding has_row
  alive_kept {P} q same kept there = go (row_at t k) refl (ap (λ (x : Key). is_some (row_at t x)) same ∙ there)
    where
      go : (o : Option SourceRow) → row_at t k ≡ o → is_some o ≡ true → P
      go None is some = cc
      go (Some row) is some = kept row is
