use Rattle.std.{proofs.Common.{Some, sym, ◌∙◌}}
use Rattle.slab.{specs.Slab.get}
use Rattle.pim_model.{specs.Tables.row_at}
use Rattle.pim_tables.{specs.Places.rows_placed, proofs.{Lookups.put_is_changed, Rows.always, Standing.{has, rising}}}
use Rattle.pim_tables.proofs.placed.PlacedWriteRows.insert.Goals as goal

pub returns-then-contains-clause-ok : goal.returns-then-contains-clause-ok
returns-then-contains-clause-ok g c =
    let t = rows_placed (get c.self.inside.rows) c.self.inside.places in
    rw (← c.self.view_is) (c.replace_placed.ensures.changed
    ∙ sym (put_is_changed c.args.key c.args.row (λ _. Some c.args.row) t (rising _ _ c.self.invariant)
    (has _ _ c.self.invariant c.args.key ∙ sym c.contains.ensures ∙ c.if-contains.true)
    (always (row_at t c.args.key) c.args.row)))
