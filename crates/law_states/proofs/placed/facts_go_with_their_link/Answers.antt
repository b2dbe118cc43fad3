use Rattle.law_states.{proofs.Rows.facts_go_with_their_link}
use Rattle.law_states.proofs.placed.facts_go_with_their_link.Goals as goal

pub returns : goal.returns
returns c = facts_go_with_their_link
