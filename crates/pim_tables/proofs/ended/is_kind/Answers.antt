use Rattle.std.{proofs.Common.{ap, sym, ◌∙◌}}
use Rattle.pim_tables.{specs.Ends.is_second, proofs.Steps.kinds_tie}
use Rattle.pim_tables.proofs.ended.is_kind.Goals as goal

pub returns-in-Some : goal.returns-in-Some
returns-in-Some c =
    c.eq.ensures ∙ kinds_tie c.args.kind c.in-Some.second ∙ ap (λ o. is_second o c.args.kind) (sym c.in-Some.is)
