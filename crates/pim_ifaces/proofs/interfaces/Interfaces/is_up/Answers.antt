use Rattle.std.{proofs.Common.{◌≡◌, true, sym, ◌∙◌}}
use Rattle.pim_model.{specs.Tables.has_row}
use Rattle.pim_types.{specs.Keys.iface_key}
use Rattle.pim_ifaces.{proofs.Rows.up_is_configured}
use Rattle.pim_ifaces.proofs.interfaces.Interfaces.is_up.Goals as goal

pub returns-clause-configured : goal.returns-clause-configured
returns-clause-configured c = λ held.
    let up : has_row c.self.inside.rows (iface_key c.args.iface.number)
    ≡ true = sym (rw c.iface.ensures at c.contains.ensures) ∙ held in
    rw (← c.self.view_is) (up_is_configured _ c.args.iface.number c.self.inside.rows c.self.invariant up)
