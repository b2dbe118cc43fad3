use Rattle.std.{proofs.Common.{◌≤◌, ap, arith, length}}
use Rattle.pim_model.{specs.Tables.rows_on}
use Rattle.pim_tables.{proofs.Counting.at_most_all}
use Rattle.pim_tables.proofs.facts.Facts.count_on.Goals as goal

pub overflow_add-count : goal.overflow_add-count
overflow_add-count g c =
    let most : length (rows_on c.args.iface.number c.args.self.now) ≤ length c.args.self.now =
    at_most_all c.args.iface.number c.args.self.now in
    omega (arith, most, ap (λ t. length t) c.in-Some.ensures.steps, c.len.ensures.count, c.loop-row.invariant)
