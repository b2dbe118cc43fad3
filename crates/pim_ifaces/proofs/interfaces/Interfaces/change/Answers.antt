use Rattle.pim_ifaces.{proofs.Rows.{row_set, settled}}
use Rattle.pim_ifaces.proofs.interfaces.Interfaces.change.Goals as goal

pub invariant_of-self : goal.invariant_of-self
invariant_of-self c =
    (settled c.self.inside.configured c.self.inside.rows _ c.change.result c.change.new.self _ _ c.self.invariant
    (λ e. row_set c.args.key c.args.row c.self.inside.configured c.self.inside.rows c.change.new.self
    c.self.invariant e)
    c.change.ensures.to c.change.ensures.err).held
