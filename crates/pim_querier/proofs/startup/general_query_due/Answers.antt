use Rattle.pim_model.{specs.Querier.general_query_due}
use Rattle.pim_querier.{proofs.Starting.{general_by, said_one}}
use Rattle.pim_querier.proofs.startup.general_query_due.Goals as goal

pub returns-clause-messages : goal.returns-clause-messages
unfolding general_query_due
returns-clause-messages c =
    said_one c.query.result c.turn.inside.draw c.turn.inside.out c.query.new.self _ _ c.args.turn.now c.turn.view_is
    (general_by c.args.world.now c.args.iface.number c.general_query-query.result c.general_query-query.ensures.header)
    c.query.ensures.ok
