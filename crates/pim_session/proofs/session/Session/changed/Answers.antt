use Rattle.std.{proofs.Common.subst, specs.List.Sorted.IsStrictlySortedBy}
use Rattle.pim_types.{specs.Keys.key_cmp}
use Rattle.pim_session.{specs.Session.ShownSession}
use Rattle.pim_session.proofs.session.Session.changed.Goals as goal

pub returns-then-self-clause-once : goal.returns-then-self-clause-once
unfolding IsStrictlySortedBy
returns-then-self-clause-once c =
    subst (λ (x : ShownSession). IsStrictlySortedBy key_cmp x.router.changed) (rw c.if-self.true at c.self.view_is) tt
