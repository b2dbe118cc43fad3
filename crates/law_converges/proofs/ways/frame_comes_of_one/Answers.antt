use Rattle.law_converges.{proofs.NothingElse.frame_comes_of_one}
use Rattle.law_converges.proofs.ways.frame_comes_of_one.Goals as goal

pub returns : goal.returns
returns c = frame_comes_of_one
