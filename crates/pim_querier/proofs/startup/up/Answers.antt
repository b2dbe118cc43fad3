use Rattle.std.{proofs.Common.{ap, ◌∙◌}}
use Rattle.pim_model.{specs.{Querier.general_query, State.State}}
use Rattle.pim_querier.{proofs.Starting.{general_by, on_ok, said_one, starts}}
use Rattle.pim_querier.proofs.startup.up.Goals as goal

pub returns-clause-state : goal.returns-clause-state
returns-clause-state c =
    rw (starts c.args.world.now c.args.iface.number)
    (on_ok c.query.result
    (rw (c.from.ensures, c.present.ensures.present, c.settings-settings.ensures.value)
    at c.in_ok-start_querying.ensures))

pub returns-clause-messages : goal.returns-clause-messages
returns-clause-messages c =
    rw (starts c.args.world.now c.args.iface.number)
    (said_one c.query.result c.turn.inside.draw c.turn.inside.out c.query.new.self _ _ c.args.turn.now c.turn.view_is
    (general_by c.start_querying.new.self c.args.iface.number c.general_query.result c.general_query.ensures.header
    ∙ ap (λ (x : State). general_query x c.args.iface.number)
    (rw (c.from.ensures, c.present.ensures.present, c.settings-settings.ensures.value)
    at c.in_ok-start_querying.ensures))
    c.query.ensures.ok)
