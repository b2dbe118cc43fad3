-- The same listener and the same bytes are opened of what was written.
use Rattle.pim_lab.{proofs.FrontRead.kept_is_opened}
use Rattle.pim_lab.proofs.kept.write_both.Goals as goal

pub returns-clause-again : goal.returns-clause-again
returns-clause-again c =
    kept_is_opened c.args.listener.now c.args.router.now c.in_ok-write_front.ensures.fitting c.in_ok-write_front.ensures.again
