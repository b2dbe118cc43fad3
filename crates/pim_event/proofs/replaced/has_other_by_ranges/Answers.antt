use Rattle.std.{proofs.Common.◌∙◌}
use Rattle.pim_event.{proofs.Replacing.other_by_ranges}
use Rattle.pim_event.proofs.replaced.has_other_by_ranges.Goals as goal

pub returns : goal.returns
returns c =
    c.group_has_other_rp.ensures
    ∙ other_by_ranges c.args.world.now c.args.ranges.now.ranges c.args.name.group.bits c.args.name.source.bits
