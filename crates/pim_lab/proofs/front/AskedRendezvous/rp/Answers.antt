-- A router that doesn't stand has no RP of a group.
use Rattle.std.{proofs.Common.◌∙◌}
use Rattle.pim_lab.{proofs.Fronts.rp_told}
use Rattle.pim_lab.proofs.front.AskedRendezvous.rp.Goals as goal

pub returns : goal.returns
returns c = c.rp.ensures ∙ rp_told _ c.args.group.bits
