use Rattle.std.{proofs.Common.{ap, sym, ◌∙◌}, specs.Option.option_copied}
use Rattle.pim_model.{specs.Tables.row_at}
use Rattle.pim_types.{proofs.Keys.equal_keys}
use Rattle.pim_source_trie.{specs.Entries.entry_key}
use Rattle.pim_store.{specs.Said.{timer_in, timers_in}, proofs.Timers.{found_timer, no_timer_astray}}
use Rattle.pim_store.proofs.join_timers.LentReadRowsJoinTimerRow.get.Goals as goal

pub returns-then-not-is_placed : goal.returns-then-not-is_placed
returns-then-not-is_placed c = rw (← c.self.view_is)
    (sym (no_timer_astray c.self.inside.entries.now c.is_empty.ensures.ascending c.self.invariant.entries c.args.key
    (sym c.is_placed.ensures ∙ c.if-not-is_placed.true)))

pub returns-in-Some : goal.returns-in-Some
returns-in-Some c = rw (← c.self.view_is)
    (c.join_timer.ensures ∙ ap timer_in (sym (ap option_copied c.in-Some.is)) ∙ ap timer_in c.get.ensures.value
    ∙ sym (found_timer c.self.inside.entries.now c.is_empty.ensures.ascending (entry_key c.args.key.group c.args.key.source))
    ∙ ap (row_at (timers_in c.self.inside.entries.now))
    (sym (equal_keys c.args.key (entry_key c.args.key.group c.args.key.source) (sym c.is_placed.ensures ∙ c.if-not-is_placed.false))))

pub returns-in-None : goal.returns-in-None
returns-in-None c = rw (← c.self.view_is)
    (ap timer_in (sym (ap option_copied c.in-None.is)) ∙ ap timer_in c.get.ensures.value
    ∙ sym (found_timer c.self.inside.entries.now c.is_empty.ensures.ascending (entry_key c.args.key.group c.args.key.source))
    ∙ ap (row_at (timers_in c.self.inside.entries.now))
    (sym (equal_keys c.args.key (entry_key c.args.key.group c.args.key.source) (sym c.is_placed.ensures ∙ c.if-not-is_placed.false))))
