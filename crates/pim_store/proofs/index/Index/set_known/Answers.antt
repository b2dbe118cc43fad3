use Rattle.std.{proofs.Common.{◌≡◌, None, OnOk, Some, ap, subst, sym, ◌∙◌}}
use Rattle.pim_types.{specs.declared.{fact.{JoinTimerRow.JoinTimerRow, Key.Key}, timer.TimerKind.TimerKind}}
use Rattle.pim_model.{specs.Tables.{Table, row_at, set_row}}
use Rattle.pim_tables.{specs.Ends.{InStep, InStepBeside}}
use Rattle.pim_source_trie.{specs.Entries.entry_key}
use Rattle.pim_store.{specs.Said.{Writes, timers_in}, proofs.{Places.source_again, Timers.{counted_on, marks_keep, tunnel_timed}}}
use Rattle.pim_store.proofs.index.Index.set_known.Goals as goal

pub write_armed-set-requires-clause-bare : goal.write_armed-set-requires-clause-bare
write_armed-set-requires-clause-bare c = λ x. tunnel_timed x c.args.marks c.args.row ∙ c.requires.bare x

pub write_armed-set-requires-clause-entries : goal.write_armed-set-requires-clause-entries
write_armed-set-requires-clause-entries c = c.self.invariant.entries

pub write_armed-set-requires-clause-in_step : goal.write_armed-set-requires-clause-in_step
write_armed-set-requires-clause-in_step c = c.self.invariant.in_step

pub write_armed-set-requires-clause-placed : goal.write_armed-set-requires-clause-placed
write_armed-set-requires-clause-placed c =
    c.timer_key-key.ensures
    ∙ ap (entry_key c.args.key.group) (sym (source_again c.args.key.source))
    ∙ sym (ap (λ (k : Key). entry_key k.group k.source) c.timer_key-key.ensures)

pub write_armed-set-requires-clause-before : goal.write_armed-set-requires-clause-before
write_armed-set-requires-clause-before c =
    (rw (← c.self.view_is) at c.requires.timer)
    ∙ ap (λ k. row_at (timers_in c.self.inside.entries) k) (sym c.timer_key-key.ensures)

pub of-requires : goal.of-requires
of-requires c = record {
  entries = c.write_armed-set.ensures.entries;
  counted =
      counted_on c.write_armed-set.result c.self.inside.entries c.write_armed-set.new.entries c.timer_key-key.result
      c.args.marks.join_timer c.args.row c.in-Some.count c.self.inside.timers c.count_after-self-inside.result
      c.write_armed-set.ensures.set c.write_armed-set.ensures.err c.count_after-self-inside.ensures.ok c.count_after-self-inside.ensures.err
      c.self.invariant.counted c.write_armed-set.ensures.rise
      ((rw (← c.self.view_is) at c.requires.timer)
      ∙ ap (λ k. row_at (timers_in c.self.inside.entries) k) (sym c.timer_key-key.ensures))
      c.in-Some.ensures;
}

pub settle-requires : goal.settle-requires
settle-requires c =
    subst
    (λ (u : Table JoinTimerRow). InStepBeside (TimerKind.Join, None) (λ (r : JoinTimerRow). (Some r.end, None))
    c.write_armed-set.new.ends u c.timer_key-key.result)
    (sym c.of.ensures) c.write_armed-set.ensures.beside

pub invariant_of-self : goal.invariant_of-self
invariant_of-self c = record {
  entries = c.write_armed-set.ensures.entries;
  in_step = subst
      (λ (u : Table JoinTimerRow). InStep (TimerKind.Join, None) (λ (r : JoinTimerRow). (Some r.end, None))
      c.settle.new.self u)
      c.of.ensures c.settle.ensures;
  counted = counted_on c.write_armed-set.result c.self.inside.entries c.write_armed-set.new.entries c.timer_key-key.result
      c.args.marks.join_timer c.args.row c.in-Some.count c.self.inside.timers c.count_after-self-inside.result
      c.write_armed-set.ensures.set c.write_armed-set.ensures.err c.count_after-self-inside.ensures.ok c.count_after-self-inside.ensures.err
      c.self.invariant.counted c.write_armed-set.ensures.rise
      ((rw (← c.self.view_is) at c.requires.timer)
      ∙ ap (λ k. row_at (timers_in c.self.inside.entries) k) (sym c.timer_key-key.ensures))
      c.in-Some.ensures;
}

pub returns-clause-set : goal.returns-clause-set
returns-clause-set c = rw (← c.self.view_is)
    (subst
    (λ (k : Key). OnOk c.write_armed-set.result (timers_in c.write_armed-set.new.entries
    ≡ set_row (timers_in c.self.inside.entries) k c.args.row))
    c.timer_key-key.ensures c.write_armed-set.ensures.set)

pub returns-clause-marks : goal.returns-clause-marks
returns-clause-marks c = rw (← c.self.view_is)
    (marks_keep c.self.inside.entries c.write_armed-set.new.entries c.args.key c.args.marks c.args.row
    (rw (← c.self.view_is) at c.requires.as_said) c.write_armed-set.result
    (subst
    (λ (k : Key). OnOk c.write_armed-set.result (Writes c.self.inside.entries c.write_armed-set.new.entries k
    (record c.args.marks { join_timer = c.args.row })))
    c.timer_key-key.ensures c.write_armed-set.ensures.ok)
    c.write_armed-set.ensures.err)
