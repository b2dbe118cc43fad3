use Rattle.std.{proofs.Common.◌∙◌}
use Rattle.pim_session.{proofs.Sourcing.registered_told}
use Rattle.pim_session.proofs.sources.registered.Goals as goal

pub returns : goal.returns
returns c =
    rw (c.of.ensures, c.sets.ensures) at c.registered.ensures
    ∙ registered_told c.args.router.now.standing c.args.anycast.now c.args.bytes.now
