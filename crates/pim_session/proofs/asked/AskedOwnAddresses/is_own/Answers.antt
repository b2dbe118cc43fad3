use Rattle.std.{proofs.Common.◌∙◌}
use Rattle.pim_session.{proofs.Sharing.own_of}
use Rattle.pim_session.proofs.asked.AskedOwnAddresses.is_own.Goals as goal

pub returns : goal.returns
returns c = rw (← c.self.view_is) (c.is_own.ensures ∙ own_of c.self.inside.router.now.standing c.args.address.bits)
