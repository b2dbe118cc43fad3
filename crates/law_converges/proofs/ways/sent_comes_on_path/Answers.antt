use Rattle.law_converges.{proofs.SourceWays.sent_comes_on_path}
use Rattle.law_converges.proofs.ways.sent_comes_on_path.Goals as goal

pub returns : goal.returns
returns c = sent_comes_on_path
