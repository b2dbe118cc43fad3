use Rattle.std.{proofs.Common.{subst, sym}}
use Rattle.pim_filters.{specs.Members.{IsAscending, member_entries}}
use Rattle.pim_querier.{proofs.NamedRecords.made_so}
use Rattle.pim_querier.proofs.applying.record_past.Goals as goal

pub returns-clause-ascending : goal.returns-clause-ascending
returns-clause-ascending c =
    made_so (λ known. IsAscending known.members) c.with.result _ c.with.ensures
    (subst (λ ms. IsAscending (member_entries ms)) (sym c.deref.ensures.value) c.in_ok-members.ensures.ascending)
