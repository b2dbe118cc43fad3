use Rattle.law_states.{proofs.RestTests.{rest_is, rest_so}}
use Rattle.law_states.proofs.restored.rest_is_decided.Goals as goal

pub returns : goal.returns
returns c = λ s. (rest_is s, rest_so s)
