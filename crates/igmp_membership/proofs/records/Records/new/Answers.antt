use Rattle.igmp_membership.{proofs.Told.none_listed}
use Rattle.igmp_membership.proofs.records.Records.new.Goals as goal

pub invariant_of-result : goal.invariant_of-result
invariant_of-result g c = none_listed g.R.Record.runs g.R.Record.of_sources _ _ c.new-2.ensures c.new.ensures
