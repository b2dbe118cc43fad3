use Rattle.std.{proofs.Common.{◌≡◌, subst, sym, ◌∙◌}}
use Rattle.pim_fanout.{specs.Refreshing.{CacheValue, touches}}
use Rattle.pim_fanout.proofs.cache.Cache.changed.Goals as goal

pub returns-clause-none : goal.returns-clause-none
unfolding touches
returns-clause-none c = λ none.
    c.as_slice.ensures.value
    ∙ c.self.invariant (subst (λ (k : CacheValue). touches k ≡ 0) (sym c.self.view_is) none)
