use Rattle.law_states.{proofs.Asked.nothing_flows_unasked_over_reloads}
use Rattle.law_states.proofs.history.nothing_flows_unasked_over_reloads.Goals as goal

pub returns : goal.returns
returns c = nothing_flows_unasked_over_reloads
