use Rattle.std.{proofs.Common.ap}
use Rattle.pim_types.{specs.{declared.fact.InterfaceRow.InterfaceRow, Keys.is_on}}
use Rattle.pim_model.{specs.{Tables.{Table, drop_where}, State.InterfaceTable}}
use Rattle.pim_ifaces.{proofs.Rows.{Becomes, row_dropped}}
use Rattle.pim_ifaces.proofs.interfaces.Interfaces.set_down.Goals as goal

changed : (c : goal.After-remove) → Becomes c.self.inside.configured c.remove.new.self
    (drop_where (is_on c.args.iface.number) c.self.inside.rows)
changed c =
    row_dropped _ c.args.iface.number c.self.inside.rows c.remove.new.self c.self.invariant
    (rw c.iface.ensures at c.remove.ensures)

pub invariant_of-self : goal.invariant_of-self
invariant_of-self c = (changed c).held

pub returns : goal.returns
returns c =
    rw (← c.self.view_is)
    (ap (λ (rows : Table InterfaceRow). let t : InterfaceTable = record { configured = record { interfaces = c.self.inside.configured; addresses = c.self.inside.addresses.items }; rows = rows } in t) (changed c).same)
