use Rattle.std.{proofs.Common.refl}
use Rattle.pim_event.{proofs.Costs.row_lent}
use Rattle.pim_event.proofs.hear.by_row.Goals as goal

pub returns-clause-visited : goal.returns-clause-visited
returns-clause-visited g c = λ none row.
    c.forward.ensures.visited none
    (row_lent (g.R.CountedRows.kept c.args.rows.now) _ c.args.packet.now.destination c.destination.result.bits
    c.args.packet.now.source c.source.result.bits refl c.destination.ensures c.source.ensures.value row)
