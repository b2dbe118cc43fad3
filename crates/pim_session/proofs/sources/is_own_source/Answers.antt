use Rattle.std.{proofs.Common.◌∙◌}
use Rattle.pim_session.{proofs.Sourcing.own_told}
use Rattle.pim_session.proofs.sources.is_own_source.Goals as goal

pub returns : goal.returns
returns c =
    (rw c.of.ensures at c.is_own_source.ensures)
    ∙ own_told c.args.router.now.standing c.args.name.group.bits c.args.name.source.bits
