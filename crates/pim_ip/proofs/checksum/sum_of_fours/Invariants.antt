use Rattle.std.{proofs.Common.{◌≡◌, ◌+◌, ◌^◌, ◌<◌, length}}
use Rattle.pim_ip.{specs.Checksum.{sum_of_words, ones}}
use Rattle.pim_ip.proofs.checksum.sum_of_fours.Given as goal

-- what is summed and what is left make the whole sum
abbrev pub invariant-loop-rest : goal.invariant-loop-rest
invariant-loop-rest l = record {
  bits : l.sum < 2 ^ 32;
  whole : ones (l.sum + sum_of_words l.rest) ≡ ones (sum_of_words l.bytes);
}

abbrev pub decreases-loop-rest : goal.decreases-loop-rest
decreases-loop-rest l = length l.rest
