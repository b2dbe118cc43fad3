use Rattle.std.{proofs.Common.◌∙◌}
use Rattle.pim_model.{specs.Receivers.is_exclude_among}
use Rattle.igmp_membership.proofs.membership.Membership.receivers_star.Goals as goal

pub returns-clause-interfaces : goal.returns-clause-interfaces
unfolding is_exclude_among
returns-clause-interfaces c = rw (← c.self.view_is)
    (λ i. c.without_tunnel.ensures.interfaces i ∙ c.listed.ensures.running i)
