use Rattle.std.{proofs.Common.{OnOk, Some, ap, subst, sym, ◌∙◌}}
use Rattle.pim_source_trie.{specs.Entries.entry_key}
use Rattle.pim_store.{specs.Said.{Writes, timer_in}, proofs.{Marked.{got_none, marks_set, not_some, plain_set}, Timers.no_timer_at}}
use Rattle.pim_model.{specs.Tables.row_at}
use Rattle.pim_store.proofs.index.Index.mark.Goals as goal

pub returns-then-is_some-clause-ok : goal.returns-then-is_some-clause-ok
returns-then-is_some-clause-ok g c =
    marks_set g.R.TellsMarks.tells g.R.TellsMarks.says c.args.key (Some c.args.row) _ _ _ _ c.get-marks.ensures.marks
    c.marked.ensures.marks _ c.keep.ensures.ok

pub returns-then-set_plain-clause-ok : goal.returns-then-set_plain-clause-ok
returns-then-set_plain-clause-ok g c =
    plain_set g.R.TellsMarks.tells g.R.TellsMarks.says c.args.key _ _ c.args.key.iface.number c.told-first.ensures.near
    c.told-first.result c.told-first.ensures.marks c.args.row c.says.result
    (not_some c.told-first.result.1 _ c.is_some.ensures c.if-is_some.false)
    (sym c.is_plain.ensures ∙ c.if-not-is_plain.false) c.says.ensures
    (sym c.set_plain.ensures.there ∙ c.if-set_plain.true) c.set_plain.ensures.marks

pub returns-clause-ok : goal.returns-clause-ok
returns-clause-ok g c =
    marks_set g.R.TellsMarks.tells g.R.TellsMarks.says c.args.key (Some c.args.row) c.args.self.now c.keep-2.new.self
    c.none.result c.marked-marks.result
    (got_none c.args.key c.args.self.now c.none.result c.none.ensures.silent
    (sym c.set_plain.ensures.there ∙ c.if-set_plain.false))
    c.marked-marks.ensures.marks c.keep-2.result
    (subst
    (λ t. OnOk c.keep-2.result (Writes t c.keep-2.new.self (entry_key c.args.key.group c.args.key.source) c.marked-marks.result))
    (c.set_plain.ensures.absent c.if-set_plain.false) c.keep-2.ensures.ok)

pub keep-requires-clause-timer : goal.keep-requires-clause-timer
keep-requires-clause-timer g c = c.marked.ensures.timer ∙ c.get-marks.ensures.timer

pub keep-requires-2-clause-timer : goal.keep-requires-2-clause-timer
keep-requires-2-clause-timer g c =
    c.marked-marks.ensures.timer ∙ c.none.ensures.timer
    ∙ sym (ap (λ t. timer_in (row_at t (entry_key c.args.key.group c.args.key.source))) (c.set_plain.ensures.absent c.if-set_plain.false)
    ∙ no_timer_at _ c.args.self.now (sym c.set_plain.ensures.there ∙ c.if-set_plain.false))

pub returns-clause-timers : goal.returns-clause-timers
returns-clause-timers g c = c.keep-2.ensures.timers ∙ c.set_plain.ensures.timers
