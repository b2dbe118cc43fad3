-- What a listener asks of the session's router is what a router in its state answers.
use Rattle.std.{proofs.Common.{Option, None, Some, IfSome}}
use Rattle.pim_router.{specs.Standing.Standing}
use Rattle.pim_bsr.{specs.Hearing.{Around, around_of}}
use Rattle.pim_session.{specs.Heard.around_in}

pub told_around : (o : Option Standing) (P : Around → Type 0) → P (around_in o) → IfSome o (λ r. P (around_of r.state))
told_around None P p = tt
told_around (Some r) P p = p
