use Rattle.std.{proofs.Common.{nat_lt, ap, ◌∙◌}, specs.List.list_all}
use Rattle.pim_types.{specs.Keys.iface_in}
use Rattle.pim_store.{proofs.Fitting.{all_fit, below_when_plain}}
use Rattle.pim_store.proofs.store.Store.assert_rows.Goals as goal

pub returns-clause-below : goal.returns-clause-below
returns-clause-below c =
    ap (λ t. list_all (λ e. nat_lt (iface_in e.0) 120) t) (c.iter.ensures ∙ c.rows.ensures)
    ∙ all_fit (λ k. nat_lt (iface_in k) 120) c.self.inside.asserts
    (λ k there. below_when_plain k (c.self.invariant.asserts.fit k there))
