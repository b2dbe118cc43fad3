use Rattle.pim_store.{proofs.Timers.{timers_plain, timers_rise}}
use Rattle.pim_store.proofs.index.Index.proof_keyed_timers.Goals as goal

pub returns-clause-kind : goal.returns-clause-kind
returns-clause-kind c = rw (← c.self.view_is)
    (timers_plain _ c.is_empty.ensures.ascending c.self.invariant.entries)

pub returns-clause-rising : goal.returns-clause-rising
returns-clause-rising c = rw (← c.self.view_is) (timers_rise _ c.is_empty.ensures.ascending)
