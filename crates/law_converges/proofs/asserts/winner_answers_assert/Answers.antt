use Rattle.law_converges.{proofs.LinkAsserts.winner_answers_assert}
use Rattle.law_converges.proofs.asserts.winner_answers_assert.Goals as goal

pub returns : goal.returns
returns c = winner_answers_assert
