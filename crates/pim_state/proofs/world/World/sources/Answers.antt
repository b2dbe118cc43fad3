use Rattle.std.{proofs.Common.{ap, ◌∙◌}}
use Rattle.igmp_membership.{specs.MembershipTables.membership_keys}
use Rattle.pim_store.{specs.PimTables.stored_keys}
use Rattle.pim_state.{specs.Groups.{gathered, numbers_of}, proofs.GatheredSources.facts_in_order}
use Rattle.pim_state.proofs.world.World.sources.Goals as goal

pub returns : goal.returns
unfolding membership_keys stored_keys
returns c = rw (← c.self.view_is)
    (facts_in_order _ c.args.group.bits (numbers_of c.in_ok-found.found.entries) _ c.in_ok-found.ensures
    (c.in_ok-gather_all.ensures
    ∙ ap (λ ns. gathered ns (numbers_of c.in_ok-found.found.entries)) c.sources_of-2.ensures))
