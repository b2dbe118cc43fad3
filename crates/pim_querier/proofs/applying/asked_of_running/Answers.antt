use Rattle.igmp_wire.{specs.Written.bits_of}
use Rattle.std.{proofs.Common.{ap, filter, ◌∙◌}}
use Rattle.pim_model.{specs.{Querier.exceeds, Records.record_of}}
use Rattle.pim_querier.{proofs.LateSources.late_alike}
use Rattle.pim_querier.proofs.applying.asked_of_running.Goals as goal

pub returns-clause-asked : goal.returns-clause-asked
returns-clause-asked c =
    let s = c.args.world.now in
    let i = c.args.seen.place.iface.number in
    let g = c.args.seen.place.group.bits in
    late_alike s i g c.args.seen.full c.args.seen.record_type (bits_of c.args.sources.now) c.requires.keeps c.requires.others
    (rw c.membership.ensures at c.proof_rising_source_records.ensures)
    (rw c.membership-2.ensures at c.proof_keyed_source_records.ensures)
    (rw (rw c.membership-3.ensures at c.source_records_at.ensures.rows) at c.source_records_at.ensures.rising)
    c.in_ok-known.known c.in_ok-known.ensures.timer
    (c.in_ok-known.ensures.members
    ∙ ap (λ n. filter (λ m. exceeds n m.1) (record_of s i g).members) c.query_end-end.ensures)
    c.in_ok-known.ensures.ascending c.apply.new.asked c.in_ok-apply.ensures.asked_after
