use Rattle.std.{proofs.Common.{Option, sym, ap, ◌∙◌}}
use Rattle.pim_store.{specs.{Telling.is_set_by_either, declared.marks.Mark.Mark}, proofs.{Alike.{apart, first_told, second_told, tested}, Told.{not_apart, same_test, two_alike}}}
use Rattle.pim_store.proofs.rows.says_alike.Goals as goal

pub returns-then-says-clause-all : goal.returns-then-says-clause-all
returns-then-says-clause-all g c = λ alike.
    absurd (apart _ _ c.if-says.true
    (c.says.ensures
    ∙ alike c.told-first.result.0
    (first_told g.R.TellsMarks.tells c.args.key c.args.key.iface.number c.told-first.result c.told-first.ensures.marks)
    ∙ sym c.says-2.ensures))

pub returns-in-Some-clause-alike : goal.returns-in-Some-clause-alike
returns-in-Some-clause-alike g c = λ same x i about.
    two_alike g.R.TellsMarks.tells g.R.TellsMarks.says c.told-first.result.0 c.in-Some.second c.args.row c.args.before
    (sym c.says.ensures ∙ not_apart _ _ c.if-says.false ∙ c.says-2.ensures)
    (sym c.says-in-Some.ensures ∙ same_test _ _ same ∙ c.says-in-Some-2.ensures) x i c.args.key.iface.number _
    (c.told-first.ensures.marks x i
    ∙ ap (λ (o : Option Mark). is_set_by_either (c.told-first.result.0, o) c.args.key.iface.number x i) c.in-Some.is) about

pub returns-in-Some-clause-all : goal.returns-in-Some-clause-all
returns-in-Some-clause-all g c = λ alike.
    tested _ _
    (c.says-in-Some.ensures
    ∙ alike c.in-Some.second
    (second_told g.R.TellsMarks.tells c.args.key c.args.key.iface.number c.told-first.result c.told-first.ensures.marks
    c.in-Some.second c.in-Some.is)
    ∙ sym c.says-in-Some-2.ensures)
