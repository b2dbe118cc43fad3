use Rattle.std.{proofs.Common.{◌≡◌, OnOk, map, subst}}
use Rattle.pim_types.{specs.Keys.group_in}
use Rattle.igmp_membership.{specs.MembershipTables.membership_keys}
use Rattle.pim_store.{specs.PimTables.stored_keys}
use Rattle.pim_state.{specs.Groups.{gathered, numbers_of}, proofs.{Gathered.gathered_last, GatheredSources.both_are_all}}
use Rattle.pim_state.proofs.world.World.gather_groups.Goals as goal

pub returns : goal.returns
unfolding membership_keys stored_keys
returns c = rw (← c.self.view_is)
    (subst (λ ks. OnOk c.gather_stored.result
    (numbers_of c.gather_stored.new.found.entries ≡ gathered (map group_in ks) (numbers_of c.args.found.now.entries)))
    (both_are_all _)
    (gathered_last c.gather_stored.result _ _ _ _ _ c.in_ok-gather_members.ensures c.gather_stored.ensures))
