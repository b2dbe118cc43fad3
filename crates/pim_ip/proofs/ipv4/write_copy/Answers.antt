use Rattle.std.{proofs.Common.{arith, rules, ◌++◌, ap, ◌∙◌}}
use Rattle.pim_ip.{proofs.{ViewLemmas.copy_reads, WritingLemmas.lowered_behind}, specs.{Ipv4.copy_text, View.lowered_header}}
use Rattle.pim_ip.proofs.ipv4.write_copy.Goals as goal

pub returns-clause-ok : goal.returns-clause-ok
unfolding copy_text lowered_header
returns-clause-ok c =
    let header = c.packet.inside.header.now in
    let payload = c.packet.inside.payload.now in
    lowered_behind c.args.out.now.items header payload c.lower_time_to_live.new.header c.deref_mut.result.now c.write_both.new.out.items _ _ _
    (omega arith) (search rules) c.in_ok-write_both.ensures.ok (search rules) (search rules) (omega arith) c.lower_time_to_live.ensures
    ∙ ap (λ p. c.args.out.now.items ++ copy_text p) c.packet.view_is

pub returns-clause-reads : goal.returns-clause-reads
returns-clause-reads c =
    copy_reads c.packet.inside.header.now c.packet.inside.payload.now c.args.packet.now c.packet.view_is c.packet.invariant

pub returns-in_err-write_both-clause-reads : goal.returns-in_err-write_both-clause-reads
returns-in_err-write_both-clause-reads c =
    copy_reads c.packet.inside.header.now c.packet.inside.payload.now c.args.packet.now c.packet.view_is c.packet.invariant
