use Rattle.pim_asserts.{specs.Passes.group_pass, proofs.Progress.{all_gone, goes_on, next_item}}
use Rattle.pim_asserts.proofs.clearing.clear_groups_in_pass.Goals as goal

pub loop-opened-preserved : goal.loop-opened-preserved
loop-opened-preserved c =
    goes_on (group_pass c.args.pass) c.args.groups.now _ _ _ _ _ _ c.loop-opened.opened-index c.opened-item.result
    (next_item c.args.groups.now _ c.opened-item.result c.loop-opened-test.true c.opened-item.is)
    c.in_ok-clear_group_in_pass.ensures.state c.in_ok-clear_group_in_pass.ensures.messages
    c.loop-opened.invariant

pub returns-clause-state : goal.returns-clause-state
returns-clause-state c =
    (all_gone (group_pass c.args.pass) c.args.groups.now _ _ _ _ c.loop-opened.opened-index c.loop-opened-test.false
    c.loop-opened.invariant).state

pub returns-clause-messages : goal.returns-clause-messages
returns-clause-messages c =
    (all_gone (group_pass c.args.pass) c.args.groups.now _ _ _ _ c.loop-opened.opened-index c.loop-opened-test.false
    c.loop-opened.invariant).messages
