use Rattle.pim_store.{specs.Stored.tables_of, proofs.Indexed.after_downstream}
use Rattle.pim_store.proofs.store.Store.drop_downstream.Goals as goal

pub drop_row-requires : goal.drop_row-requires
drop_row-requires c = c.self.invariant.downstream

pub invariant_of-self : goal.invariant_of-self
invariant_of-self c = after_downstream c.self.invariant c.drop_row.ensures.others c.drop_row.ensures.told

pub returns : goal.returns
returns c = rw (← c.self.view_is)
    (λ j. record (tables_of c.self.inside) { downstream = c.drop_row.ensures.dropped j; join_timers = c.drop_row.ensures.timers j })
