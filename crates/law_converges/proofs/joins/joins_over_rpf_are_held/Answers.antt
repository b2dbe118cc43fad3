use Rattle.law_converges.{proofs.JoinsOverRpf.joins_over_rpf_are_held}
use Rattle.law_converges.proofs.joins.joins_over_rpf_are_held.Goals as goal

pub returns : goal.returns
returns c = joins_over_rpf_are_held
