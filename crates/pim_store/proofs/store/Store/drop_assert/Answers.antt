use Rattle.pim_store.{specs.Stored.tables_of, proofs.Indexed.after_asserts}
use Rattle.pim_store.proofs.store.Store.drop_assert.Goals as goal

pub drop_row-requires : goal.drop_row-requires
drop_row-requires c = c.self.invariant.asserts

pub invariant_of-self : goal.invariant_of-self
invariant_of-self c = after_asserts c.self.invariant c.drop_row.ensures.others c.drop_row.ensures.told

pub returns : goal.returns
returns c = rw (← c.self.view_is)
    (λ j. record (tables_of c.self.inside) { asserts = c.drop_row.ensures.dropped j; join_timers = c.drop_row.ensures.timers j })
