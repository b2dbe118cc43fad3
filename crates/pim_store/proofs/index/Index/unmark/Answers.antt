use Rattle.std.{proofs.Common.{ap, ◌∙◌}}
use Rattle.pim_source_trie.{specs.Entries.entry_key}
use Rattle.pim_store.{specs.{Said.timers_in, Entry.without_either}, proofs.{Timers.kept_as, Altered.{entries_altered, timers_stay}, Changed.{timer_without, tunnel_without}, Marked.marks_cleared}}
use Rattle.pim_store.proofs.index.Index.unmark.Goals as goal

pub invariant_of-self : goal.invariant_of-self
invariant_of-self g c =
    kept_as _ _ _ _ c.self.invariant
    (entries_altered c.args.key.group c.args.key.source (without_either c.told-first.result.0 c.told-first.result.1 c.args.key.iface.number) _ _
    c.alter.ensures.changed c.is_empty.ensures.ascending
    (λ m bare x. tunnel_without c.told-first.result.0 c.told-first.result.1 c.args.key.iface.number m x ∙ bare x)
    c.self.invariant.entries)
    (ap timers_in c.alter.ensures.changed
    ∙ timers_stay (entry_key c.args.key.group c.args.key.source) (without_either c.told-first.result.0 c.told-first.result.1 c.args.key.iface.number)
    (timer_without c.told-first.result.0 c.told-first.result.1 c.args.key.iface.number) _)

pub returns-clause-timers : goal.returns-clause-timers
returns-clause-timers g c = rw (← c.self.view_is)
    (ap timers_in c.alter.ensures.changed
    ∙ timers_stay (entry_key c.args.key.group c.args.key.source) (without_either c.told-first.result.0 c.told-first.result.1 c.args.key.iface.number)
    (timer_without c.told-first.result.0 c.told-first.result.1 c.args.key.iface.number) _)

pub returns-clause-marks : goal.returns-clause-marks
returns-clause-marks g c = rw (← c.self.view_is)
    (marks_cleared g.R.TellsMarks.tells g.R.TellsMarks.says c.args.key _ _ c.args.key.iface.number
    c.told-first.ensures.near c.told-first.result c.told-first.ensures.marks c.is_empty.ensures.ascending
    c.alter.ensures.changed)
