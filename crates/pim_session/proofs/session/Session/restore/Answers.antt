use Rattle.std.{proofs.Common.◌∙◌}
use Rattle.pim_session.{proofs.{Leaving.goes_on_from, Saving.stands_by}}
use Rattle.pim_session.proofs.session.Session.restore.Goals as goal

pub of-requires : goal.of-requires
of-requires c =
    stands_by c.args.bytes.now c.in_ok-new-in-Ok.field-0.value (rw c.in-Ok.is at c.in_ok-router.ensures.tested)
    (λ h is. c.in_ok-new-in-Ok.ensures.ok ∙ ((rw c.in-Ok.is at c.in_ok-router.ensures.restored) h is).0)

pub returns-in_ok-new-in-Ok-clause-restored : goal.returns-in_ok-new-in-Ok-clause-restored
returns-in_ok-new-in-Ok-clause-restored c = λ h is.
    let made = (rw c.in-Ok.is at c.in_ok-router.ensures.restored) h is in
    (c.of.ensures.0 ∙ c.in_ok-new-in-Ok.ensures.ok ∙ made.0, c.of.ensures.1 ∙ made.1)

pub returns-in_ok-new-in-Ok-clause-led : goal.returns-in_ok-new-in-Ok-clause-led
returns-in_ok-new-in-Ok-clause-led c =
    goes_on_from c.args.bytes.now _
    (λ h is. c.of.ensures.0 ∙ c.in_ok-new-in-Ok.ensures.ok ∙ ((rw c.in-Ok.is at c.in_ok-router.ensures.restored) h is).0)
