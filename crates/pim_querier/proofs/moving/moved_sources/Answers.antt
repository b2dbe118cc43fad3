use Rattle.std.{proofs.Common.◌∙◌}
use Rattle.pim_querier.{proofs.Naming.{all_moved, one_moved}}
use Rattle.pim_querier.proofs.moving.moved_sources.Goals as goal

pub loop-group_record-preserved : goal.loop-group_record-preserved
loop-group_record-preserved c =
    one_moved c.args.world.now c.args.iface.number c.args.report.now c.loop-group_record.keys.items
    c.push_moved.new.keys.items c.loop-group_record.group_record-iterator c.next.new.self c.in-Some.group_record
    c.in-Some.ensures.steps c.in_ok-push_moved.ensures c.loop-group_record.invariant

pub returns : goal.returns
returns c =
    c.from_vec.ensures
    ∙ all_moved c.args.world.now c.args.iface.number c.args.report.now c.loop-group_record.keys.items
    c.loop-group_record.group_record-iterator c.in-None.ensures.steps.0 c.loop-group_record.invariant
