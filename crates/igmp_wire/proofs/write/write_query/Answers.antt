use Rattle.std.{proofs.{Common.{arith, rules}, lemmas.{List.length-map, Result.on_ok_weaker}}}
use Rattle.igmp_wire.{specs.{Queries.query_text, Written.{query_with, unsummed_query}}, proofs.{RoundTrip.query_reads, WritingLaws.finished}}
use Rattle.igmp_wire.proofs.write.write_query.Goals as goal

pub returns-clause-ok : goal.returns-clause-ok
unfolding query_text
returns-clause-ok c =
    let q = query_with c.args.query.now c.args.sources.now in
    rw c.finish.ensures.same
    (finished c.append_query-written.result c.args.out.now.items (unsummed_query q) c.append_query-written.new.out.items c.finish.new.out.items c.len-start.result (search rules) c.append_query-written.ensures.ok c.finish.ensures.ok)

pub returns-clause-reads : goal.returns-clause-reads
returns-clause-reads c =
    let q = query_with c.args.query.now c.args.sources.now in
    let count = length-map c.args.sources.now (λ address. address.bits) in
    rw c.finish.ensures.same
    (on_ok_weaker c.append_query-written.result (λ fits. query_reads q c.requires.robustness (omega arith) fits) c.append_query-written.ensures.in_range)
