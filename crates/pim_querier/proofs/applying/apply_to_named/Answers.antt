use Rattle.igmp_wire.{specs.Written.bits_of}
use Rattle.pim_querier.{proofs.NamedRecords.{few_asked, few_written}}
use Rattle.pim_querier.proofs.applying.apply_to_named.Goals as goal

pub returns-clause-state : goal.returns-clause-state
returns-clause-state c =
    few_written c.args.world.now c.args.seen.place.iface.number c.args.seen.place.group.bits c.args.seen.full c.args.seen.record_type
    (bits_of c.args.sources.now) c.in_ok-known.known
    (rw c.membership.ensures at c.proof_rising_source_records.ensures)
    (rw c.membership-2.ensures at c.proof_keyed_source_records.ensures)
    (rw (rw c.membership-3.ensures at c.source_records_at.ensures.rows) at c.source_records_at.ensures.rising)
    c.in_ok-known.ensures.timer c.in_ok-known.ensures.ascending c.in_ok-known.ensures.source_states c.apply.new.self
    c.write_beside.new.world c.requires.keeps c.in_ok-apply.ensures.record_after c.in_ok-write_beside.ensures

pub returns-clause-asked : goal.returns-clause-asked
returns-clause-asked c = λ asks.
    few_asked c.args.world.now c.args.seen.place.iface.number c.args.seen.place.group.bits c.args.seen.full c.args.seen.record_type
    (bits_of c.args.sources.now) c.in_ok-known.known
    (rw c.membership.ensures at c.proof_rising_source_records.ensures)
    (rw c.membership-2.ensures at c.proof_keyed_source_records.ensures)
    (rw (rw c.membership-3.ensures at c.source_records_at.ensures.rows) at c.source_records_at.ensures.rising)
    c.in_ok-known.ensures.timer c.in_ok-known.ensures.ascending c.in_ok-known.ensures.source_states c.apply.new.asked asks
    c.in_ok-apply.ensures.asked_after
