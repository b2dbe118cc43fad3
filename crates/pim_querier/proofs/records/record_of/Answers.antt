use Rattle.std.{proofs.Common.{◌<◌, length, subst, sym}}
use Rattle.pim_filters.{specs.Members.member_entries}
use Rattle.pim_querier.{proofs.Expired.made_near}
use Rattle.pim_querier.proofs.records.record_of.Goals as goal

pub returns-clause-near : goal.returns-clause-near
returns-clause-near c =
    made_near c.args.place.iface.number c.with.result _ c.with.ensures
    (subst (λ ms. 0 < length (member_entries ms) → c.args.place.iface.number < 120) (sym c.deref.ensures.value)
    c.in_ok-members.ensures.near)
