use Rattle.std.{proofs.Common.ap}
use Rattle.pim_model.{specs.Records.{members_of, record_of}}
use Rattle.pim_querier.{proofs.Reported.{all_read, members_rise, rows_near}}
use Rattle.pim_querier.proofs.records.members_at.Goals as goal

pub returns-clause-near : goal.returns-clause-near
unfolding record_of
returns-clause-near c =
    rows_near c.args.place.iface.number c.source_records_at-key-items.result c.loop-key.members.items
    (all_read c.source_records_at-key-items.result _ c.loop-key.members.items _ c.in-None.ensures.steps.0
    c.loop-key.invariant (ap members_of (rw c.membership.ensures at c.source_records_at-key-items.ensures.rows)))
    c.source_records_at-key-items.ensures.near

pub returns-clause-ascending : goal.returns-clause-ascending
unfolding record_of
returns-clause-ascending c =
    members_rise c.source_records_at-key-items.result c.loop-key.members.items
    (all_read c.source_records_at-key-items.result _ c.loop-key.members.items _ c.in-None.ensures.steps.0
    c.loop-key.invariant (ap members_of (rw c.membership.ensures at c.source_records_at-key-items.ensures.rows)))
    c.source_records_at-key-items.ensures.rising
