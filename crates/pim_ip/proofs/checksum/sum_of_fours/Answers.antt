use Rattle.std.{proofs.Common.{◌+◌, ◌-◌, length, take, drop, get_or, ap, ◌∙◌, arith}}
use Rattle.pim_ip.{specs.Checksum.{sum_of_words, ones}, proofs.ChecksumLemmas.{sum_of_words-four, ones-four}}
use Rattle.pim_ip.proofs.checksum.sum_of_fours.Goals as goal

pub loop-rest-preserved : goal.loop-rest-preserved
loop-rest-preserved c =
    let rest = c.loop-rest.rest.now in
    let others = sum_of_words (take (length rest - 4) (drop 4 rest)) in
    let sum = c.loop-rest.sum in
    let four = sum_of_words-four rest c.in-len4-up.len_at_least in
    record {
      bits = c.folded_wide-sum.type_inv;
      whole = c.folded_wide-sum.ensures others
          ∙ ap ones (omega arith)
          ∙ ones-four (sum + others) (get_or rest 0 0) (get_or rest 1 0) (get_or rest 2 0) (get_or rest 3 0)
          ∙ ap ones (omega arith)
          ∙ c.loop-rest.invariant.whole;
    }
