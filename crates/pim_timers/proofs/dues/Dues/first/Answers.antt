use Rattle.pim_timers.{proofs.Members.first_copied}
use Rattle.pim_timers.proofs.dues.Dues.first.Goals as goal

pub returns : goal.returns
returns c = rw (c.copied.ensures, ← c.self.view_is)
    (first_copied c.self.inside.set.keys c.first.result c.first.ensures.variant c.first.ensures.member
    c.first.ensures.least)
