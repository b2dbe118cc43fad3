use Rattle.std.{proofs.Common.{refl, sym}}
use Rattle.pim_state.{specs.contracts.world.World.the_view, proofs.LoweredRows.{none_lowered, one_lowered}}
use Rattle.pim_state.proofs.world.World.lower_group.Goals as goal

pub returns-in_default : goal.returns-in_default
returns-in_default c = rw (← c.self.view_is)
    (none_lowered c.args.iface.number c.args.group.bits c.args.end (the_view c.self.inside) (sym c.in_default.ensures))

pub returns : goal.returns
returns c = rw (← c.self.view_is)
    (one_lowered c.args.iface.number c.args.group.bits c.args.end c.change_group_record.result (the_view c.self.inside)
    c.self.inside.membership c.change_group_record.new.self c.in-Some.row _ refl c.change_group_record.ensures.by
    (sym c.in-Some.ensures) c.lowered.ensures)
