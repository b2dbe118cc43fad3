use Rattle.std.{proofs.Common.{◌≡◌, OnOk, Some, ap, false, refl, subst, sym, ◌∙◌}}
use Rattle.pim_types.{specs.declared.fact.{JoinTimerRow.JoinTimerRow, SourceRow.SourceRow}}
use Rattle.pim_model.{specs.Tables.{Table, put, row_at}}
use Rattle.pim_tables.{proofs.Lookups.absent}
use Rattle.pim_store.{specs.{PimTables.kept_alive, Stored.tables_of}, proofs.{KeptAlive.{alive_kept, alive_new, alive_there, with_end}, Lowered.{both_same, nothing_changed, same_beside}}}
use Rattle.pim_store.proofs.store.Store.keep_alive.Goals as goal

pub returns-then-branch-clause-state : goal.returns-then-branch-clause-state
returns-then-branch-clause-state c = rw (← c.self.view_is)
    (both_same (λ (t : Table SourceRow) (u : Table JoinTimerRow). record (tables_of c.self.inside) { sources = t; join_timers = u })
    c.in_ok-update_row.ensures.timers
    (c.in_ok-update_row.ensures.changed
    ∙ alive_there c.args.end c.key-key.result c.self.inside.sources c.proof_rising.ensures
    (sym c.in_ok-update_row.ensures.there ∙ c.if-branch.true)
    ∙ ap (λ k. put c.self.inside.sources k (kept_alive c.args.end (row_at c.self.inside.sources k))) c.key-key.ensures))

pub returns-then-branch-clause-kept : goal.returns-then-branch-clause-kept
returns-then-branch-clause-kept c = rw (← c.self.view_is)
    (alive_kept c.args.end c.key-key.result c.self.inside.sources _ c.key-key.ensures
    (λ before at. c.in_ok-update_row.ensures.alike before at (λ x told. refl)))

pub add_row-requires-clause-absent : goal.add_row-requires-clause-absent
unfolding row_at
add_row-requires-clause-absent c =
    let gone = sym c.in_ok-update_row.ensures.there ∙ c.if-branch.false in
    ap (λ t. row_at t c.key-key.result)
    (c.in_ok-update_row.ensures.changed
    ∙ sym (nothing_changed c.key-key.result c.self.inside.sources (λ row. Some (with_end c.args.end row)) gone))
    ∙ absent c.key-key.result c.self.inside.sources gone

pub returns-clause-state : goal.returns-clause-state
returns-clause-state c = rw (← c.self.view_is)
    (same_beside c.add_row.result
    (λ (t : Table SourceRow) (u : Table JoinTimerRow). record (tables_of c.self.inside) { sources = t; join_timers = u })
    c.add_row.new.rows _ _ _ (c.add_row.ensures.timers ∙ c.in_ok-update_row.ensures.timers)
    (subst (λ t. OnOk c.add_row.result (c.add_row.new.rows ≡ t))
    (ap (λ t. put t c.key-key.result (record { keepalive = Some c.args.end; spt = false }))
    (c.in_ok-update_row.ensures.changed
    ∙ sym (nothing_changed c.key-key.result c.self.inside.sources (λ row. Some (with_end c.args.end row))
    (sym c.in_ok-update_row.ensures.there ∙ c.if-branch.false)))
    ∙ alive_new c.args.end c.key-key.result c.self.inside.sources
    (sym c.in_ok-update_row.ensures.there ∙ c.if-branch.false)
    ∙ ap (λ k. put c.self.inside.sources k (kept_alive c.args.end (row_at c.self.inside.sources k))) c.key-key.ensures)
    c.add_row.ensures.put))
