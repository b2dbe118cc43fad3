use Rattle.std.{proofs.Common.{[], ap, false, ◌+◌, ◌-◌, ◌∙◌}}
use Rattle.pim_state.{specs.Lending.with_membership}
use Rattle.pim_model.{specs.{Querier.query_group, Tables.set_row}}
use Rattle.pim_querier.{proofs.{Queried.group_queried, Starting.{on_ok, said_one, specific_by}}}
use Rattle.pim_querier.proofs.asked.query_group.Goals as goal

pub returns-clause-state : goal.returns-clause-state
unfolding set_row
returns-clause-state c =
    on_ok c.query.result
    (group_queried c.args.place.iface.number c.args.place.group.bits c.args.world.now c.lower_group.new.self
    _ c.query_end.result _ _ c.query_end.ensures
    (λ j. c.present.ensures.present j + c.last_member_query_interval.ensures.value j)
    (c.saturating_sub.ensures ∙ ap (λ n. n - 1) (c.from.ensures ∙ c.robustness.ensures.value))
    c.in_ok-lower_group.ensures (ap (with_membership c.lower_group.new.self) (rw c.membership_mut.ensures.value at c.in_ok-set_group_repeat.ensures)))

pub returns-clause-messages : goal.returns-clause-messages
unfolding query_group
returns-clause-messages c =
    said_one c.query.result c.turn.inside.draw c.turn.inside.out c.query.new.self _ _ c.args.turn.now c.turn.view_is
    (specific_by c.args.world.now c.args.place.iface.number c.args.place.group.bits false [] c.specific_query-query.result
    c.specific_query-query.ensures.header)
    c.query.ensures.ok
