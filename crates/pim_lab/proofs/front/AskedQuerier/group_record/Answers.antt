-- A router that doesn't stand has no record.
use Rattle.std.{proofs.Common.◌∙◌}
use Rattle.pim_lab.{proofs.Fronts.asked_row}
use Rattle.pim_lab.proofs.front.AskedQuerier.group_record.Goals as goal

pub returns : goal.returns
returns c = c.group_record.ensures ∙ asked_row _ c.args.iface.number c.args.group.bits
