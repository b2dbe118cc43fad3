use Rattle.std.{proofs.Common.{ap, sym, ◌∙◌}}
use Rattle.pim_source_trie.{specs.Entries.entry_key}
use Rattle.pim_store.{specs.{Said.timers_in, Entry.with_plain}, proofs.{Timers.kept_as, Altered.{altered_writes, entries_altered, timers_stay, unaltered}, Changed.{timer_with_plain, tunnel_with_plain}}}
use Rattle.pim_store.proofs.index.Index.set_plain.Goals as goal

pub invariant_of-self : goal.invariant_of-self
invariant_of-self c =
    kept_as _ _ _ _ c.self.invariant
    (entries_altered c.args.key.group c.args.key.source (with_plain c.args.mark c.args.key.iface.number c.args.is_set) _ _
    c.alter.ensures.changed c.is_empty.ensures.ascending
    (λ m bare x. tunnel_with_plain c.args.mark c.args.key.iface.number c.args.is_set m x ∙ bare x) c.self.invariant.entries)
    (ap timers_in c.alter.ensures.changed
    ∙ timers_stay (entry_key c.args.key.group c.args.key.source) (with_plain c.args.mark c.args.key.iface.number c.args.is_set)
    (timer_with_plain c.args.mark c.args.key.iface.number c.args.is_set) _)

pub returns-clause-timers : goal.returns-clause-timers
returns-clause-timers c = rw (← c.self.view_is)
    (ap timers_in c.alter.ensures.changed
    ∙ timers_stay (entry_key c.args.key.group c.args.key.source) (with_plain c.args.mark c.args.key.iface.number c.args.is_set)
    (timer_with_plain c.args.mark c.args.key.iface.number c.args.is_set) _)

pub returns-clause-marks : goal.returns-clause-marks
returns-clause-marks c = rw (← c.self.view_is) (λ m found.
    altered_writes c.args.key.group c.args.key.source (with_plain c.args.mark c.args.key.iface.number c.args.is_set) _ _
    c.alter.ensures.changed c.is_empty.ensures.ascending m found)

pub returns-clause-absent : goal.returns-clause-absent
returns-clause-absent c = rw (← c.self.view_is) (λ gone.
    unaltered c.args.key.group c.args.key.source (with_plain c.args.mark c.args.key.iface.number c.args.is_set) _ _
    c.alter.ensures.changed (sym c.alter.ensures.there ∙ gone))
