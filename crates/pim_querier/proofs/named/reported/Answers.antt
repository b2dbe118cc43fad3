use Rattle.pim_querier.{proofs.Naming.{all_named, one_named}}
use Rattle.pim_querier.proofs.named.reported.Goals as goal

pub loop-group_record-preserved : goal.loop-group_record-preserved
loop-group_record-preserved c =
    one_named c.args.iface.number c.args.report.now c.loop-group_record.groups.items c.loop-group_record.sources.items
    c.push_named.new.groups.items c.push_named.new.sources.items c.loop-group_record.group_record-iterator
    c.next.new.self c.in-Some.group_record c.in-Some.ensures.steps c.in_ok-push_named.ensures.groups
    c.in_ok-push_named.ensures.sources c.loop-group_record.invariant

pub returns-clause-groups : goal.returns-clause-groups
returns-clause-groups c =
    (all_named c.args.iface.number c.args.report.now c.loop-group_record.groups.items c.loop-group_record.sources.items
    c.loop-group_record.group_record-iterator c.in-None.ensures.steps.0 c.loop-group_record.invariant).0

pub returns-clause-sources : goal.returns-clause-sources
returns-clause-sources c =
    (all_named c.args.iface.number c.args.report.now c.loop-group_record.groups.items c.loop-group_record.sources.items
    c.loop-group_record.group_record-iterator c.in-None.ensures.steps.0 c.loop-group_record.invariant).1
