use Rattle.std.{proofs.Common.{sym, ◌∙◌, arith, rules}}
use Rattle.igmp_wire.{proofs.ReadingLaws.{message_refused_as_query, message_refused_as_report}}
use Rattle.igmp_wire.proofs.read.read_igmp.Goals as goal

pub returns-in_err-read-in-17 : goal.returns-in_err-read-in-17
returns-in_err-read-in-17 c =
    let refusal = message_refused_as_query c.args.message.now _ (omega arith) (omega arith) (omega arith) (sym c.read.ensures ∙ c.in_err-read-in-17.was) in
    search rules

pub returns-in_err-read-in-34 : goal.returns-in_err-read-in-34
returns-in_err-read-in-34 c =
    let refusal = message_refused_as_report c.args.message.now _ (omega arith) (omega arith) (omega arith) (sym c.read-in-34.ensures ∙ c.in_err-read-in-34.was) in
    search rules
