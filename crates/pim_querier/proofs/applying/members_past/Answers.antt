use Rattle.std.{proofs.Common.ap}
use Rattle.pim_model.{specs.Records.{members_of, record_of}}
use Rattle.pim_querier.{proofs.LateSources.late_read}
use Rattle.pim_querier.proofs.applying.members_past.Goals as goal

pub returns-clause-ascending : goal.returns-clause-ascending
unfolding record_of
returns-clause-ascending c =
    late_read c.args.moment c.source_records_at-key-items.result _ c.loop-key.members.items _ c.in-None.ensures.steps.0
    c.loop-key.invariant (ap members_of (rw c.membership.ensures at c.source_records_at-key-items.ensures.rows))
    c.source_records_at-key-items.ensures.rising
