use Rattle.pim_querier.{proofs.Expired.group_near}
use Rattle.pim_querier.proofs.records.group_record_due.Goals as goal

pub set_members-requires : goal.set_members-requires
set_members-requires c =
    group_near c.args.place.iface.number c.present.result c.in_ok-known.known c.group_expired.new.self c.group_expired.ensures
    c.in_ok-known.ensures.near
