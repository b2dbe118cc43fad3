use Rattle.law_states.{proofs.NextQueries.next_query_stays_near}
use Rattle.law_states.proofs.near.next_query_stays_near.Goals as goal

pub returns : goal.returns
returns c = next_query_stays_near
