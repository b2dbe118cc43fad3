use Rattle.std.{proofs.Common.◌∙◌}
use Rattle.pim_tables.{specs.RowsOf.row_seen}
use Rattle.pim_model.{specs.Querier.is_sending}
use Rattle.pim_state.{proofs.FirstFound.any_by_first}
use Rattle.pim_state.proofs.world.World.has_sendings.Goals as goal

pub returns : goal.returns
returns c = rw (← c.self.view_is)
    (c.is_some.ensures
    ∙ any_by_first (is_sending c.args.iface.number c.args.group.bits) row_seen c.self.inside.membership.sendings _
    c.next.new.self c.next.result c.sendings_at.ensures c.next.ensures.steps)
