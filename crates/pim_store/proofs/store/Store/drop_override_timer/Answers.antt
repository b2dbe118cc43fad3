use Rattle.pim_store.{specs.Stored.tables_of, proofs.Indexed.after_override_timers}
use Rattle.pim_store.proofs.store.Store.drop_override_timer.Goals as goal

pub drop_row-requires : goal.drop_row-requires
drop_row-requires c = c.self.invariant.override_timers

pub invariant_of-self : goal.invariant_of-self
invariant_of-self c = after_override_timers c.self.invariant c.drop_row.ensures.others c.drop_row.ensures.told

pub returns : goal.returns
returns c = rw (← c.self.view_is)
    (λ j. record (tables_of c.self.inside) { override_timers = c.drop_row.ensures.dropped j; join_timers = c.drop_row.ensures.timers j })
