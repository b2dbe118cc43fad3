-- A router that doesn't stand has no address.
use Rattle.std.{proofs.Common.◌∙◌}
use Rattle.pim_lab.{proofs.Fronts.own_of}
use Rattle.pim_lab.proofs.front.AskedOwnAddresses.is_own.Goals as goal

pub returns : goal.returns
returns c = c.is_own.ensures ∙ own_of _ c.args.address.bits
