use Rattle.pim_event.{proofs.Costs.visited_within}
use Rattle.pim_event.proofs.hear.MfcCountedRows.forward.Goals as goal

pub returns-clause-visited : goal.returns-clause-visited
returns-clause-visited c = λ none row.
    visited_within c.forward.new.meter c.args.meter.now _ c.forward.ensures.visited none (c.forward.ensures.at_least row)
    c.forward.ensures.at_most
