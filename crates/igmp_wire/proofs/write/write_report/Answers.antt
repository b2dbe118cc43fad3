use Rattle.std.{proofs.{Common.{arith, rules}, lemmas.List.length-map}}
use Rattle.igmp_wire.{specs.{Reports.report_text, Written.{record_to_write, records_of, unsummed_report}}, proofs.{RoundTrip.{report_reads, source_counts}, WritingLaws.finished}}
use Rattle.igmp_wire.proofs.write.write_report.Goals as goal

pub returns-clause-ok : goal.returns-clause-ok
unfolding report_text
returns-clause-ok c =
    let rs = records_of c.args.records.now in
    rw c.finish.ensures.same
    (finished c.append_report-written.result c.args.out.now.items (unsummed_report rs) c.append_report-written.new.out.items c.finish.new.out.items c.len-start.result (search rules) c.append_report-written.ensures.ok c.finish.ensures.ok)

pub returns-clause-reads : goal.returns-clause-reads
returns-clause-reads c =
    let count = length-map c.args.records.now record_to_write in
    report_reads (records_of c.args.records.now) (omega arith) (source_counts c.args.records.now c.requires.sources)
