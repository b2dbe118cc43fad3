use Rattle.std.{proofs.Common.{◌∙◌, sym, true}}
use Rattle.pim_session.{proofs.Sharing.{announced_settled, none_settled}}
use Rattle.pim_session.proofs.shared.is_settled.Goals as goal

pub returns-then-is_unset : goal.returns-then-is_unset
returns-then-is_unset c =
    none_settled c.args.router.now.standing true c.args.anycast.now c.args.name.group.bits c.args.name.source.bits
    (sym c.is_unset.ensures ∙ c.if-is_unset.true)

pub returns : goal.returns
returns c =
    announced_settled c.args.router.now.standing c.is_announced.result c.args.anycast.now c.args.name.group.bits
    c.args.name.source.bits (rw c.of.ensures at c.is_announced.ensures)
