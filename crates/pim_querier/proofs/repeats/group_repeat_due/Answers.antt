use Rattle.std.{proofs.Common.{[], ap, ◌∙◌}}
use Rattle.pim_model.{specs.Querier.{exceeds, group_repeat_due, query_end, specific_query}}
use Rattle.pim_querier.{proofs.Starting.{said_one, specific_by}}
use Rattle.pim_querier.proofs.repeats.group_repeat_due.Goals as goal

pub returns-clause-messages : goal.returns-clause-messages
unfolding group_repeat_due
returns-clause-messages c =
    let s = c.args.world.now in
    let i = c.args.place.iface.number in
    let g = c.args.place.group.bits in
    said_one c.query.result c.turn.inside.draw c.turn.inside.out c.query.new.self _ _ c.args.turn.now c.turn.view_is
    (specific_by s i g c.exceeds-suppress.result [] c.specific_query-query.result c.specific_query-query.ensures.header
    ∙ ap (λ b. specific_query s i g b [])
    (c.exceeds-suppress.ensures ∙ ap (λ e. exceeds e c.group_end.result) c.query_end.ensures
    ∙ ap (λ o. exceeds (query_end s i) o) c.group_end.ensures))
    c.query.ensures.ok
