use Rattle.std.{proofs.{Common.{◌≡◌, ◌+◌, ◌/◌, ◌%◌, ◌∙◌, ap, bit_and, arith, sym}, lemmas.Grind.and_numeral}}
use Rattle.pim_ip.{proofs.ChecksumLemmas.{ones-folded, ones-small}, specs.Checksum.ones}
use Rattle.pim_ip.proofs.checksum.folded.Goals as goal

pub returns : goal.returns
returns c =
    let low : bit_and c.args.sum 65535 ≡ c.args.sum % 65536 = grind (arith, and_numeral) in
    rw low (sym (ones-small (c.args.sum % 65536 + c.args.sum / 65536) (omega arith)) ∙ ap ones (omega arith) ∙ ones-folded c.args.sum 0 ∙ ap ones (omega arith))
