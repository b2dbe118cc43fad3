use Rattle.std.{proofs.Common.{ap, ◌∙◌}}
use Rattle.pim_model.{specs.{Querier.general_query, State.State}}
use Rattle.pim_querier.{proofs.Starting.{general_by, on_ok, said_one, starts_again}}
use Rattle.pim_querier.proofs.election.other_querier_gone.Goals as goal

pub returns-clause-state : goal.returns-clause-state
returns-clause-state c =
    rw (starts_again c.args.world.now c.args.iface.number)
    (on_ok c.query.result
    (rw (c.from-interval.ensures, c.present.ensures.present, c.settings.ensures.value)
    at c.in_ok-update_querier.ensures))

pub returns-clause-messages : goal.returns-clause-messages
returns-clause-messages c =
    rw (starts_again c.args.world.now c.args.iface.number)
    (said_one c.query.result c.turn.inside.draw c.turn.inside.out c.query.new.self _ _ c.args.turn.now c.turn.view_is
    (general_by c.update_querier.new.self c.args.iface.number c.general_query.result c.general_query.ensures.header
    ∙ ap (λ (x : State). general_query x c.args.iface.number)
    (rw (c.from-interval.ensures, c.present.ensures.present, c.settings.ensures.value)
    at c.in_ok-update_querier.ensures))
    c.query.ensures.ok)
