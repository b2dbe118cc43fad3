-- The state after a change of what it lent.
use Rattle.std.{proofs.Common.{◌≡◌, Ok, Err, OnOk, Result, ap, ◌∙◌}}
use Rattle.pim_model.{specs.State.State}
use Rattle.pim_store.{specs.PimTables.{PimTables, pim_tables}}
use Rattle.pim_state.{specs.Lending.with_store}

module _ (s : State) where
  pub stored : (lent left : PimTables) (change : PimTables → PimTables) → lent ≡ pim_tables s → left ≡ change lent
      → with_store s left ≡ with_store s (change (pim_tables s))
  stored lent left change value e = ap (with_store s) (e ∙ ap change value)

  pub stored_on_ok : {T E : Type 0} (r : Result T E) (lent left : PimTables) (change : PimTables → PimTables)
      → lent ≡ pim_tables s → OnOk r (left ≡ change lent) → OnOk r (with_store s left ≡ with_store s (change (pim_tables s)))
  stored_on_ok (Ok x) lent left change value e = stored lent left change value e
  stored_on_ok (Err x) lent left change value e = tt
