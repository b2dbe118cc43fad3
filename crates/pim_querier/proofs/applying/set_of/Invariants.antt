use Rattle.std.{proofs.Common.{◌≡◌, ℕ, take}}
use Rattle.pim_filters.{specs.Members.is_named_source}
use Rattle.pim_querier.proofs.applying.set_of.Given as goal

abbrev pub invariant-loop-source : goal.invariant-loop-source
invariant-loop-source l = (n : ℕ) → is_named_source n l.set.keys ≡ is_named_source n (take l.source-index l.sources)
