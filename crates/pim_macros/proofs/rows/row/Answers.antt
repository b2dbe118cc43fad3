use Rattle.pim_macros.proofs.rows.row.Goals as goal

pub returns-clause-answers : goal.returns-clause-answers
returns-clause-answers c =
    rw c.with_star-sight.ensures.group at (rw c.with_star-sight.ensures.source at c.row_by_sight.ensures.answers)
