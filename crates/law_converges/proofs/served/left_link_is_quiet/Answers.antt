use Rattle.law_converges.{proofs.LeftLinks.left_link_is_quiet}
use Rattle.law_converges.proofs.served.left_link_is_quiet.Goals as goal

pub returns : goal.returns
returns c = left_link_is_quiet
