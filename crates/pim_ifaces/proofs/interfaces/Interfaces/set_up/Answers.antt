use Rattle.std.{proofs.Common.{arith, ap, length, sym, ◌≡◌}}
use Rattle.pim_model.{specs.State.InterfaceTable}
use Rattle.pim_ifaces.{proofs.Rows.held_after_put}
use Rattle.pim_ifaces.proofs.interfaces.Interfaces.set_up.Goals as goal

pub invariant_of-self : goal.invariant_of-self
invariant_of-self c =
    let counted : length c.args.self.now.configured.interfaces ≡ length c.self.inside.configured =
    sym (ap (λ (t : InterfaceTable). length t.configured.interfaces) c.self.view_is) in
    held_after_put _ c.args.iface.number c.args.row c.self.inside.rows c.put.new.self _ c.put.result
    (omega (arith, counted, c.requires))
    c.self.invariant (rw (c.iface.ensures) at c.put.ensures.ok) c.put.ensures.err
