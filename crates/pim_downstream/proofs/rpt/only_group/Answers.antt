use Rattle.std.{proofs.Common.{sym, ◌∙◌}}
use Rattle.pim_downstream.{proofs.RptGroups.one_star}
use Rattle.pim_downstream.proofs.rpt.only_group.Goals as goal

pub returns : goal.returns
returns c g =
    one_star c.args.iface.number c.args.joined.now c.in_ok-key.key c.in_ok-key.ensures
    (sym c.is_star_on.ensures ∙ c.if-not-is_star_on.false) g
