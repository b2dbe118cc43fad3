use Rattle.std.{proofs.Common.{OnOk, ap, subst, sym, ◌∙◌}}
use Rattle.pim_source_trie.{specs.Entries.entry_key}
use Rattle.pim_store.{specs.{Entry.are_none, Said.{WritesTimer, tunnel_in}, declared.marks.Marks.Marks}, proofs.{Empty.{no_timer_when_none, silent_when_none}, Writes.{drop_timer, drop_writes, entries_after, entries_dropped, entry_of, timer_after, writes_as}}}
use Rattle.pim_store.proofs.index.write.Goals as goal

pub returns-then-is_empty-clause-ok : goal.returns-then-is_empty-clause-ok
returns-then-is_empty-clause-ok c =
    drop_writes _ _ c.args.marks _ c.remove.ensures
    (silent_when_none c.args.marks (sym c.is_empty.ensures ∙ c.if-is_empty.true))

pub returns-then-is_empty-clause-timers : goal.returns-then-is_empty-clause-timers
returns-then-is_empty-clause-timers c =
    drop_timer _ _ c.args.marks _ c.remove.ensures
    (no_timer_when_none c.args.marks (sym c.is_empty.ensures ∙ c.if-is_empty.true))

pub returns-then-is_empty-clause-entries : goal.returns-then-is_empty-clause-entries
returns-then-is_empty-clause-entries c = entries_dropped _ _ c.args.marks _ c.remove.ensures c.requires.entries

pub returns-clause-ok : goal.returns-clause-ok
returns-clause-ok c =
    writes_as _ _ c.in_ok-entry.entry _ c.args.marks c.in_ok-entry.ensures c.put.result c.put.ensures.ok

pub returns-clause-timers : goal.returns-clause-timers
returns-clause-timers c =
    subst (λ (m : Marks). OnOk c.put.result
    (WritesTimer c.args.entries.now c.put.new.self (entry_key c.args.group c.args.source) m.join_timer))
    c.in_ok-entry.ensures (timer_after _ _ c.in_ok-entry.entry _ _ c.put.ensures.ok)

pub returns-clause-entries : goal.returns-clause-entries
returns-clause-entries c =
    entries_after _ _ c.in_ok-entry.entry _ _ c.put.ensures.ok c.put.ensures.err
    (entry_of c.args.group c.args.source c.in_ok-entry.entry
    (ap are_none c.in_ok-entry.ensures ∙ sym c.is_empty.ensures ∙ c.if-is_empty.false)
    (λ x. ap (tunnel_in x) c.in_ok-entry.ensures ∙ c.requires.bare x)) c.requires.entries
