use Rattle.std.{proofs.Common.{nat_lt, length, ◌∙◌}, specs.List.list_all}
use Rattle.pim_types.{specs.Keys.iface_in}
use Rattle.pim_ifaces.{proofs.Reconfigured.held_under}
use Rattle.pim_ifaces.proofs.interfaces.Interfaces.reconfigure.Goals as goal

pub invariant_of-self : goal.invariant_of-self
invariant_of-self c =
    held_under c.self.inside.configured _ c.self.inside.rows _ c.self.invariant c.other.invariant
    ((λ j. list_all (λ e. nat_lt (iface_in e.0) (length (c.other.view_is j).configured.interfaces)) (c.self.view_is j).rows)
    ∙ c.requires)
