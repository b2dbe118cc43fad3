use Rattle.std.{proofs.Common.subst, specs.List.Sorted.IsStrictlySortedBy}
use Rattle.pim_types.{specs.Keys.key_cmp}
use Rattle.pim_router.{specs.Standing.Shown}
use Rattle.pim_router.proofs.router.Router.changed.Goals as goal

pub returns-then-self-clause-once : goal.returns-then-self-clause-once
unfolding IsStrictlySortedBy
returns-then-self-clause-once c =
    subst (λ (x : Shown). IsStrictlySortedBy key_cmp x.changed) (rw c.if-self.true at c.self.view_is) tt

pub returns-clause-once : goal.returns-clause-once
returns-clause-once c =
    subst (λ (x : Shown). IsStrictlySortedBy key_cmp x.changed) (rw c.if-self.false at c.self.view_is)
    (c.self.invariant c.if-self.false).2
