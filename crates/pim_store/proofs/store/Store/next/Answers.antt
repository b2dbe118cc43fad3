use Rattle.pim_tables.{specs.Ends.row_endings}
use Rattle.pim_store.{specs.PimTables.stored_endings}
use Rattle.pim_store.proofs.store.Store.next.Goals as goal

pub returns : goal.returns
unfolding stored_endings row_endings
returns c = rw (← c.self.view_is)
    (c.earlier-3.ensures _ _
    (c.earlier-2.ensures _ _
    (c.earlier-sources.ensures _ _
    (c.earlier.ensures _ _ (c.earlier-states.ensures _ _ c.next.ensures c.next-2.ensures) c.next-3.ensures)
    c.next-4.ensures) c.next-5.ensures) c.next_timer.ensures)
