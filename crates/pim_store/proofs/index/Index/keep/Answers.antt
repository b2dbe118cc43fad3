use Rattle.pim_source_trie.{specs.Entries.entry_key}
use Rattle.pim_store.{proofs.Timers.{kept_as, timers_back}}
use Rattle.pim_store.proofs.index.Index.keep.Goals as goal

pub invariant_of-self : goal.invariant_of-self
invariant_of-self c =
    kept_as _ _ _ _ c.self.invariant c.write-written.ensures.entries
    (timers_back _ _ c.is_empty.ensures.ascending c.is_empty-2.ensures.ascending (entry_key c.args.key.group c.args.key.source)
    _ c.write-written.result c.write-written.ensures.timers c.write-written.ensures.err
    (rw (← c.self.view_is) at c.requires.timer))

pub returns-clause-timers : goal.returns-clause-timers
returns-clause-timers c = rw (← c.self.view_is)
    (timers_back _ _ c.is_empty.ensures.ascending c.is_empty-2.ensures.ascending (entry_key c.args.key.group c.args.key.source)
    _ c.write-written.result c.write-written.ensures.timers c.write-written.ensures.err
    (rw (← c.self.view_is) at c.requires.timer))
