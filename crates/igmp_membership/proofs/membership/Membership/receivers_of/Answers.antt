use Rattle.std.{proofs.Common.{◌&&◌, not, ◌∙◌}}
use Rattle.pim_types.{specs.Keys.source_key}
use Rattle.pim_model.{specs.Tables.has_row}
use Rattle.igmp_membership.{proofs.Receivers.{excluded_is, group_runs, included_is}}
use Rattle.igmp_membership.proofs.membership.Membership.receivers_of.Goals as goal

pub returns-clause-included : goal.returns-clause-included
returns-clause-included c = rw (← c.self.view_is) (λ i.
    c.without_tunnel.ensures.interfaces i
    ∙ c.intersection.ensures.interfaces i
    ∙ (λ j. c.minus-include.ensures.interfaces i j && c.listed-sources.ensures.there i j)
    ∙ (λ j. (c.listed-groups.ensures.there i j && not (c.listed-groups.ensures.running i j))
    && has_row c.self.inside.source_records (source_key i c.args.name.group.bits c.args.name.source.bits))
    ∙ included_is c.self.inside.group_records c.self.inside.source_records c.args.name.group.bits c.args.name.source.bits i)

pub returns-clause-excluded : goal.returns-clause-excluded
returns-clause-excluded c = rw (← c.self.view_is) (λ i.
    c.without_tunnel-2.ensures.interfaces i
    ∙ c.intersection-2.ensures.interfaces i
    ∙ (λ j. c.listed-groups.ensures.running i j && c.minus-stopped.ensures.interfaces i j)
    ∙ (λ j. group_runs c.self.inside.group_records c.self.inside.source_records c.args.name.group.bits c.args.name.source.bits i
    && (c.listed-sources.ensures.there i j && not (c.listed-sources.ensures.running i j)))
    ∙ excluded_is c.self.inside.group_records c.self.inside.source_records c.args.name.group.bits c.args.name.source.bits i)
