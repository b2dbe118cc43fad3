use Rattle.std.{proofs.Common.{ap, ◌∙◌}}
use Rattle.pim_model.{specs.Tables.row_at}
use Rattle.pim_tables.{proofs.{Lookups.row_at-drop_at, Steps.gone_beside}}
use Rattle.pim_tables.proofs.timed.Timed.remove.Goals as goal

pub settle-requires : goal.settle-requires
settle-requires g c =
    gone_beside g.R.Ends.kinds g.R.Ends.ends c.self.inside.queue (g.K.ReadRows.table c.self.inside.rows)
    (g.K.ReadRows.table c.take.new.self) c.args.key c.self.invariant
    (λ q. ap (λ t. row_at t q) c.take.ensures.left
    ∙ row_at-drop_at c.args.key q (g.K.ReadRows.table c.self.inside.rows))
