use Rattle.std.{proofs.Common.{◌<◌, ap, length, subst, sym, ◌∙◌}}
use Rattle.pim_types.{specs.Keys.is_on}
use Rattle.pim_model.{specs.Tables.{drop_where, rows_on}}
use Rattle.pim_tables.{proofs.Gone.{fewer, goes_anyhow, none_goes}}
use Rattle.pim_tables.proofs.facts.Facts.drop_on.Goals as goal

pub loop-first-smaller : goal.loop-first-smaller
unfolding rows_on
loop-first-smaller g c =
    subst (λ t. length t < length c.loop-first.self) (sym c.remove.ensures)
    (fewer (is_on c.args.iface.number) c.in-Some.first c.loop-first.self (sym c.in-Some.ensures))

pub loop-first-preserved : goal.loop-first-preserved
unfolding rows_on
loop-first-preserved g c =
    ap (drop_where (is_on c.args.iface.number)) c.remove.ensures
    ∙ goes_anyhow (is_on c.args.iface.number) c.in-Some.first c.loop-first.self (sym c.in-Some.ensures)
    ∙ c.loop-first.invariant

pub returns : goal.returns
unfolding rows_on
returns g c =
    sym (none_goes (is_on c.args.iface.number) c.loop-first.self (sym c.in_default.ensures)) ∙ c.loop-first.invariant
