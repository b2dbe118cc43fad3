use Rattle.law_converges.{proofs.Unheard.lost_assert_ends}
use Rattle.law_converges.proofs.asserts.lost_assert_ends.Goals as goal

pub returns : goal.returns
returns c = lost_assert_ends
