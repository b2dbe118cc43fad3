use Rattle.std.{proofs.Common.{arith, ◌∙◌}}
use Rattle.pim_ip.{proofs.{ChecksumLemmas.sum16-lowered, WritingLemmas.lowered-put}}
use Rattle.pim_ip.proofs.ipv4.lower_time_to_live.Goals as goal

pub returns : goal.returns
returns c =
    let header = c.args.header.now in
    let lower = c.saturating_sub-lower.result in
    lowered-put header c.write_u16.new.buf lower c.raised_checksum-checksum.result (omega arith) c.write_u16.ensures c.saturating_sub-lower.ensures
    (c.raised_checksum-checksum.ensures ∙ sum16-lowered header lower c.u16_at.result _ (omega arith) c.requires.version c.requires.summed c.u16_at.ensures (omega arith))
