-- A router that doesn't stand has no record.
use Rattle.std.{proofs.Common.◌∙◌}
use Rattle.pim_lab.{proofs.Fronts.asked_record}
use Rattle.pim_lab.proofs.front.AskedQuerier.has_group_record.Goals as goal

pub returns : goal.returns
returns c = c.has_group_record.ensures ∙ asked_record _ c.args.iface.number c.args.group.bits
