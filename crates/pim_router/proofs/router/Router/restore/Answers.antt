use Rattle.std.{proofs.Common.{List, subst, sym}, specs.List.Sorted.IsStrictlySortedBy}
use Rattle.pim_types.{specs.{Keys.key_cmp, declared.fact.Key.Key}}
use Rattle.pim_router.proofs.router.Router.restore.Goals as goal

pub invariant_of-result : goal.invariant_of-result
unfolding IsStrictlySortedBy
invariant_of-result c = λ works.
    let resumable = rw c.in-Ok.is at c.in_ok-made.ensures.resumable in (
      resumable.rest,
      rw c.in-Ok.is at c.in_ok-made.ensures.shown,
      subst (λ (ks : List Key). IsStrictlySortedBy key_cmp ks) (sym (rw c.in-Ok.is at c.in_ok-made.ensures.uncounted).1) tt,
      resumable.accepted,
      resumable.near,
    )
