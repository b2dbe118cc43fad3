use Rattle.std.{proofs.Common.{nat_lt, ap, ◌∙◌}, specs.List.list_all}
use Rattle.pim_types.{specs.Keys.iface_in}
use Rattle.igmp_membership.{proofs.Told.all_below}
use Rattle.igmp_membership.proofs.records.Records.iter.Goals as goal

pub returns-clause-below : goal.returns-clause-below
returns-clause-below g c =
    ap (λ t. list_all (λ e. nat_lt (iface_in e.0) 120) t) (c.iter.ensures ∙ c.rows.ensures)
    ∙ all_below c.self.inside.rows c.self.invariant.fit
