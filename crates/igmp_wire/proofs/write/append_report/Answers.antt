use Rattle.std.{proofs.Common.{◌++◌, take, flat_map}}
use Rattle.igmp_wire.{specs.{Reports.record_text, Written.records_of}, proofs.WritingLaws.{appended, begins_longer, on_err_always}}
use Rattle.igmp_wire.proofs.write.append_report.Goals as goal

pub returns-in_err-append_record-clause-err : goal.returns-in_err-append_record-clause-err
returns-in_err-append_record-clause-err c =
    let loop = c.loop-group_record in
    let old = c.args.out.now.items in
    let first = c.report_fields.result in
    let records = flat_map record_text (records_of (take loop.group_record-index c.args.records.now)) in
    let so_far = appended loop.out.items c.extend_from_slice.new.self.items old first records c.in_ok-extend_from_slice.ensures.items loop.invariant in
    on_err_always c.from_residual-in_err-append_record.result
    (begins_longer c.append_record.new.out.items old (first ++ records) loop.out.items so_far c.in_err-append_record.ensures.err)
