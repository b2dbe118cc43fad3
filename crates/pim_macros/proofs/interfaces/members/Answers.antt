use Rattle.std.{proofs.Common.{ap, arith, filter, map, refl, ◌∙◌}, specs.List.range_with_len}
use Rattle.pim_model.{specs.Sets.members}
use Rattle.pim_types.{specs.declared.config.IfaceId.IfaceId}
use Rattle.pim_macros.{proofs.ConfiguredMembers.numbers_of_members}
use Rattle.pim_macros.proofs.interfaces.members.Goals as goal

pub returns : goal.returns
unfolding members
returns c s test counted shown =
    let n = c.args.count in
    ap (map (λ (iface : IfaceId). iface.number)) c.iter.ensures.members
    ∙ numbers_of_members c.intersection.result test n (omega (arith, c.requires))
    (λ i. rw (c.intersection.ensures.interfaces i, shown i, c.below-configured.ensures.interfaces i) refl)
    ∙ ap (λ m. filter test (range_with_len 0 m)) counted
