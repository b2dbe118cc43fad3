use Rattle.pim_ifaces.{proofs.UpKeys.up_keys}
use Rattle.pim_ifaces.proofs.interfaces.Interfaces.proof_kinds.Goals as goal

pub returns : goal.returns
returns c = rw (← c.self.view_is) (up_keys 0 _ c.self.inside.rows c.self.invariant.rise)
