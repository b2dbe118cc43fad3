use Rattle.law_converges.{proofs.LinkAsserts.gives_way_to_assert}
use Rattle.law_converges.proofs.asserts.gives_way_to_assert.Goals as goal

pub returns : goal.returns
returns c = gives_way_to_assert
