use Rattle.std.{proofs.Common.arith}
use Rattle.pim_ip.{proofs.ChecksumLemmas.{none-left, one-left, three-left, two-left}}
use Rattle.pim_ip.proofs.checksum.last_four.Goals as goal

pub returns-in-len3 : goal.returns-in-len3
returns-in-len3 c more = three-left c.args.rest.now more _ c.in-len3.len_at_least c.in-len3.len_below (omega arith)

pub returns-in-len2 : goal.returns-in-len2
returns-in-len2 c more = two-left c.args.rest.now more _ c.in-len2.len_at_least c.in-len2.len_below (omega arith)

pub returns-in-len1 : goal.returns-in-len1
returns-in-len1 c more = one-left c.args.rest.now more _ c.in-len1.len_at_least c.in-len1.len_below (omega arith)

pub returns-in_default : goal.returns-in_default
returns-in_default c more = none-left c.args.rest.now more c.in_default.len_below
