-- What isn't looked up raises no meter.
use Rattle.std.{proofs.Common.{◌≡◌, ℕ, arith}}
use Rattle.pim_trie.{specs.Meter.raised}

pub raised_by_none : (count : ℕ) → raised count 0 ≡ count
unfolding raised
raised_by_none count = omega arith
