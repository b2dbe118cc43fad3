-- A text that is refused says no scenario.
use Rattle.std.{proofs.Common.{rules, ◌≡◌, ap, inl, Err}}
use Rattle.pim_ip.{specs.declared.refusal.Refusal.Refusal}
use Rattle.pim_scenario.{specs.declared.complaint.ScenarioRefusal.ScenarioRefusal}
use Rattle.lab_parts.{specs.declared.trouble.Trouble.Trouble}
use Rattle.pim_lab.{proofs.Opening.says_none}
use Rattle.pim_lab.proofs.playing.read.Goals as goal

pub returns-in_err-branch-clause-trouble : goal.returns-in_err-branch-clause-trouble
returns-in_err-branch-clause-trouble c =
    let refused : c.in_err-branch.field-0.0 ≡ Refusal.BadScenario = search rules in
    let told : c.from_residual-in_err-branch.result ≡ Err (Trouble.Refused (ScenarioRefusal.Tested c.in_err-branch.field-0.0)) = search rules in
    let is : c.in_ok-read_scenario.field-0 ≡ Err c.in_err-branch.field-0.0 = search rules in
    rw told (inl (ap ScenarioRefusal.Tested refused, says_none _ _ _ is c.in_ok-read_scenario.ensures.read))
