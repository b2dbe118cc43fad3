use Rattle.pim_router.{proofs.Asked.kept_by}
use Rattle.pim_router.proofs.router.Router.keep.Goals as goal

pub returns-clause-led : goal.returns-clause-led
returns-clause-led c =
    kept_by c.args.self.now c.keep_later.new.self c.keep_later.result c.args.group.bits c.args.source.bits _
    c.keep_later.ensures.state
