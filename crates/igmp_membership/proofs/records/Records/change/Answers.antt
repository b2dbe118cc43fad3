use Rattle.std.{proofs.Common.◌∙◌}
use Rattle.pim_tables.{proofs.Rows.changed_by}
use Rattle.igmp_membership.proofs.records.Records.change.Goals as goal

pub returns-clause-by : goal.returns-clause-by
returns-clause-by g c = λ change is.
    c.in_ok-update.ensures.changed
    ∙ changed_by c.args.key change c.args.row c.args.self.now c.proof_rising.ensures is
