use Rattle.std.{proofs.Common.{sym, ◌∙◌}}
use Rattle.pim_tables.{proofs.Joined.{joined, only_first, only_second, the_first, the_second}}
use Rattle.pim_tables.proofs.first.earlier.Goals as goal

pub returns-in-Some-Some : goal.returns-in-Some-Some
returns-in-Some-Some c =
    joined c.args.one c.args.other c.args.other
    (the_second _ _ _ _ c.in-Some-Some.is-0 c.in-Some-Some.is-1 (sym c.comes_before.ensures ∙ c.if-comes_before.true))

pub returns-in-Some-default : goal.returns-in-Some-default
returns-in-Some-default c =
    joined c.args.one c.args.other c.args.one
    (the_first _ _ _ _ c.in-Some-Some.is-0 c.in-Some-Some.is-1 (sym c.comes_before.ensures ∙ c.if-comes_before.false))

pub returns-in-Some-default-2 : goal.returns-in-Some-default-2
returns-in-Some-default-2 c =
    joined c.args.one c.args.other c.args.one (only_first _ _ _ c.in-Some-default.is-0 c.in-Some-default.is-1)

pub returns-in-None-default : goal.returns-in-None-default
returns-in-None-default c =
    joined c.args.one c.args.other c.args.other (only_second _ _ c.in-None-default.is-0)
