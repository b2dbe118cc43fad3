use Rattle.std.{proofs.Common.{◌≡◌, ◌+◌, ◌-◌, ℕ, sym, ◌∙◌, arith, rules}}
use Rattle.igmp_wire.{proofs.RecordLaws.{records_test-none, records_test-more, records_test-refused, report_passed, report_refused}}
use Rattle.igmp_wire.proofs.report.ReportView.read.Goals as goal

pub returns-in_err-place : goal.returns-in_err-place
returns-in_err-place c =
    let left : ℕ = c.number_at-record_count.result - c.loop-index._index in
    let read = sym c.record_end.ensures ∙ c.in_err-place.was in
    let tests = records_test-refused c.args.message.now c.loop-index.place left _ (omega arith) read in
    let refusal = report_refused c.args.message.now c.number_at-record_count.result _ c.number_at-record_count.ensures (sym c.loop-index.invariant.rest ∙ tests) in
    search rules

pub loop-index-preserved : goal.loop-index-preserved
loop-index-preserved c =
    let left : ℕ = c.number_at-record_count.result - c.loop-index._index in
    let one : left - 1 ≡ c.number_at-record_count.result - (c.loop-index._index + 1) = omega arith in
    let read = sym c.record_end.ensures ∙ c.in_ok-place.was in
    let on = records_test-more c.args.message.now c.loop-index.place left c.in_ok-place.place (omega arith) read in
    record { within = on.within; rest = rw (← one) (sym on.others ∙ c.loop-index.invariant.rest) }

pub invariant_of-result : goal.invariant_of-result
invariant_of-result c =
    let tests = records_test-none c.args.message.now c.loop-index.place (c.number_at-record_count.result - c.loop-index._index) (omega arith) in
    let all = report_passed c.args.message.now c.number_at-record_count.result c.number_at-record_count.ensures (sym c.loop-index.invariant.rest ∙ tests) in
    record { header = c.requires; records = all.0 }

pub returns : goal.returns
returns c =
    let tests = records_test-none c.args.message.now c.loop-index.place (c.number_at-record_count.result - c.loop-index._index) (omega arith) in
    let all = report_passed c.args.message.now c.number_at-record_count.result c.number_at-record_count.ensures (sym c.loop-index.invariant.rest ∙ tests) in
    sym all.1
