-- The bits of those that were looked at so far.
use Rattle.std.{proofs.Common.{◌≡◌, ◌+◌}}
use Rattle.pim_ifset.{specs.Members.{has, mask_of}}
use Rattle.pim_c.proofs.returned.word.Given as goal

abbrev pub invariant-loop-at : goal.invariant-loop-at
invariant-loop-at l = l.word ≡ mask_of (λ q. has l.set (l.from + q)) l.at
