use Rattle.std.{proofs.Common.{◌≡◌, OnOk, subst}}
use Rattle.pim_types.{specs.declared.fact.JoinTimerRow.JoinTimerRow}
use Rattle.pim_model.{specs.Tables.{Table, set_row}}
use Rattle.pim_store.{specs.{Said.timers_in, Stored.tables_of}, proofs.{Indexed.after_join_timers, Places.entry_named, Lowered.same_on_ok}}
use Rattle.pim_store.proofs.store.Store.set_join_timer.Goals as goal

pub invariant_of-self : goal.invariant_of-self
invariant_of-self c = after_join_timers c.self.invariant c.set_timer.ensures.marks

pub returns : goal.returns
returns c = rw (← c.self.view_is)
    (same_on_ok c.set_timer.result (λ (u : Table JoinTimerRow). record (tables_of c.self.inside) { join_timers = u })
    (timers_in c.set_timer.new.self) _
    (subst
    (λ k. OnOk c.set_timer.result (timers_in c.set_timer.new.self ≡ set_row (timers_in c.self.inside.index) k c.args.row))
    (entry_named c.plain_key.result c.args.group c.args.source c.plain_key.ensures) c.set_timer.ensures.set))
