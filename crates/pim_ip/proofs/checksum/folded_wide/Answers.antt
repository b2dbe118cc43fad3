use Rattle.std.{proofs.{Common.{◌≡◌, ◌%◌, bit_and, arith}, lemmas.Grind.and_numeral}}
use Rattle.pim_ip.{proofs.ChecksumLemmas.ones-folded_wide}
use Rattle.pim_ip.proofs.checksum.folded_wide.Goals as goal

pub returns : goal.returns
returns c more =
    let low : bit_and c.args.sum 4294967295 ≡ c.args.sum % 4294967296 = grind (arith, and_numeral) in rw low (ones-folded_wide c.args.sum more)
