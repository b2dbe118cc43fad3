use Rattle.std.{proofs.Common.{◌≡◌, subst}}
use Rattle.pim_fanout.{specs.Refreshing.{CacheValue, touches}}
use Rattle.pim_fanout.proofs.cache.Cache.list.Goals as goal

pub invariant_of-self : goal.invariant_of-self
invariant_of-self c = λ none. c.self.invariant none

pub invariant_of-self-then-is_empty : goal.invariant_of-self-then-is_empty
unfolding touches
invariant_of-self-then-is_empty c = λ none. c.requires (subst (λ (k : CacheValue). touches k ≡ 0) c.self.view_is none)
