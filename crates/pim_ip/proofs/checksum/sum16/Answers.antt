use Rattle.std.{proofs.{Common.{◌≡◌, ◌+◌, ◌-◌, ◌%◌, bit_and, ap, ◌∙◌, arith}, lemmas.Grind.and_numeral}}
use Rattle.pim_ip.{specs.Checksum.{sum_of_words, ones, sum16}, proofs.ChecksumLemmas.ones-folded}
use Rattle.pim_ip.proofs.checksum.sum16.Goals as goal

pub returns : goal.returns
unfolding sum16
returns c =
    let sum = c.folded_wide-sum.result in
    let low : bit_and sum 65535 ≡ sum % 65536 = grind (arith, and_numeral) in
    let halves : c.folded.result ≡ ones (sum + 0) = c.folded.ensures ∙ rw low (ap ones (omega arith) ∙ ones-folded sum 0) in
    let all : ones (sum + 0) ≡ ones (sum_of_words c.args.bytes.now) =
    c.folded_wide-sum.ensures 0 ∙ rw (c.from.ensures, c.from-2.ensures) (ap ones (omega arith) ∙ c.last_four.ensures c.sum_of_fours-fours.result.0 ∙ c.sum_of_fours-fours.ensures.same) in
    ap (λ n. 65535 - n) (halves ∙ all)
