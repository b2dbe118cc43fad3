use Rattle.std.{proofs.Common.◌∙◌}
use Rattle.pim_session.{proofs.Sharing.rp_told}
use Rattle.pim_session.proofs.asked.AskedRendezvous.rp.Goals as goal

pub returns : goal.returns
returns c = rw (← c.self.view_is) (c.rp.ensures ∙ rp_told c.self.inside.router.now.standing c.args.group.bits)
