use Rattle.law_states.{proofs.Queriers.next_query_is_near_anew}
use Rattle.law_states.proofs.reloaded.next_query_is_near_anew.Goals as goal

pub returns : goal.returns
returns c = next_query_is_near_anew
