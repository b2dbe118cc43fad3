use Rattle.std.{proofs.Common.{◌≡◌, None, Some, ap, ◌∙◌, sym}}
use Rattle.pim_model.{specs.{Writing.hellos_paid, Tables.{Table, row_at}, State.InterfaceTable}}
use Rattle.pim_types.{specs.{Keys.iface_key, declared.fact.InterfaceRow.InterfaceRow}}
use Rattle.pim_ifaces.{proofs.Rows.{Settles, paid_missing, paid_there, settled, with_rows}}
use Rattle.pim_ifaces.proofs.interfaces.Interfaces.pay_hello.Goals as goal

changed : (c : goal.After-change) → Settles c.self.inside.configured _
    c.change.result c.change.new.self (hellos_paid c.args.iface.number c.self.inside.rows)
changed c =
    let found : row_at c.self.inside.rows (iface_key c.args.iface.number) ≡ Some c.in-Some.row =
    sym (rw c.iface-key.ensures at c.get.ensures) ∙ c.in-Some.is in
    settled c.self.inside.configured c.self.inside.rows _ c.change.result c.change.new.self _ _
    c.self.invariant
    (λ e. paid_there _ c.args.iface.number c.self.inside.rows c.in-Some.row c.change.new.self c.self.invariant
    found e)
    (rw c.iface-key.ensures at c.change.ensures.to) c.change.ensures.err

pub invariant_of-self : goal.invariant_of-self
invariant_of-self c = (changed c).held

pub returns-clause-ok : goal.returns-clause-ok
returns-clause-ok c =
    rw (← c.self.view_is)
    (with_rows _ _ c.change.result c.change.new.self _ (changed c).ok)

pub returns-in_default : goal.returns-in_default
returns-in_default c =
    let missing : row_at c.self.inside.rows (iface_key c.args.iface.number) ≡ None =
    sym (rw c.iface-key.ensures at c.get.ensures) ∙ c.in_default.is in
    rw (← c.self.view_is)
    (record {
      err = tt;
      ok = ap (λ (rows : Table InterfaceRow). let t : InterfaceTable = record { configured = record { interfaces = c.self.inside.configured; addresses = c.self.inside.addresses.items }; rows = rows } in t)
          (paid_missing _ c.args.iface.number c.self.inside.rows c.self.invariant missing);
    })
