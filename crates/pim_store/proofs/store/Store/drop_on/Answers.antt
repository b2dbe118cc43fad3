use Rattle.std.{proofs.Common.◌∙◌}
use Rattle.pim_store.{specs.Stored.tables_of}
use Rattle.pim_store.proofs.store.Store.drop_on.Goals as goal

pub returns : goal.returns
returns c = rw (← c.self.view_is)
    (λ j. record (tables_of c.self.inside) {
      downstream = c.drop_rows_on.ensures.dropped j;
      asserts = c.drop_rows_on-2.ensures.dropped j;
      join_timers = (c.drop_rows_on-2.ensures.timers ∙ c.drop_rows_on.ensures.timers) j;
    })
