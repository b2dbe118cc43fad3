use Rattle.law_converges.{proofs.PassedOnce.held_is_passed_once}
use Rattle.law_converges.proofs.joins.held_is_passed_once.Goals as goal

pub returns : goal.returns
returns c = held_is_passed_once
