use Rattle.std.{proofs.Common.{nat_lt, length, ◌∙◌}, specs.List.list_all}
use Rattle.pim_types.{specs.Keys.iface_in}
use Rattle.pim_state.proofs.world.World.reconfigure.Goals as goal

pub reconfigure-requires : goal.reconfigure-requires
reconfigure-requires c =
    (λ j. list_all (λ e. nat_lt (iface_in e.0) (length (c.other.view_is j).configured.interfaces)) (c.self.view_is j).interfaces)
    ∙ c.requires.below
