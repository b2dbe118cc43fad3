use Rattle.pim_event.{proofs.Replacing.{other_where_calm, other_where_moved}}
use Rattle.pim_event.proofs.replaced.has_other_by_routes.Goals as goal

pub returns-then-is_group_moved : goal.returns-then-is_group_moved
returns-then-is_group_moved c =
    other_where_moved c.args.world.now c.args.routes.now.routes c.args.name.group.bits c.args.name.source.bits
    c.is_group_moved.result c.is_group_moved.ensures c.if-is_group_moved.true

pub returns : goal.returns
returns c =
    other_where_calm c.args.world.now c.args.routes.now.routes c.args.name.group.bits c.args.name.source.bits
    c.is_group_moved.result c.is_group_moved.ensures c.if-is_group_moved.false c.has_other_route.result
    c.has_other_route.ensures
