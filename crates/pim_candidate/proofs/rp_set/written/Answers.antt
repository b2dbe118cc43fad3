use Rattle.std.{proofs.lemmas.Result.IfOk-weaker}
use Rattle.pim_candidate.{proofs.Sizes.sendable}
use Rattle.pim_candidate.proofs.rp_set.written.Goals as goal

pub returns-clause-fits : goal.returns-clause-fits
returns-clause-fits c =
    IfOk-weaker c.write_bootstrap.result _ _ (λ messages is. sendable c.args.head c.args.ranges.now messages.items c.requires is)
    c.write_bootstrap.ensures
