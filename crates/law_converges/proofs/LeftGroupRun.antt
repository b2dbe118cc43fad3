-- The premises, computed.
use Rattle.std.{proofs.Common.{◌≡◌, [], ◌∷◌, Ok, refl, lit≤}}
use Rattle.pim_model.{specs.{Limits.config_test}}
use Rattle.law_settled.{specs.Ready.IsSettled, proofs.Steps.run_is_settled}
use Rattle.pim_runs.{specs.{ServedChain.{asked_group, first}, Words.advance}, proofs.OnLiterals.machine_on_literals}
use Rattle.law_converges.{specs.LeftGroupRun.{SilentGroupEnds, asked, asking_events}, proofs.LeftGroups.left_group_ends}

accepted : config_test first ≡ Ok tt
unfolding machine_on_literals
accepted = refl

settled_then : IsSettled asked
settled_then = run_is_settled first asking_events accepted

pub silent_group_ends : SilentGroupEnds
unfolding machine_on_literals
silent_group_ends =
    (refl, left_group_ends asked (advance 260000 ∷ []) 0 asked_group 260000 settled_then refl (refl, tt) (lit≤ tt))
