use Rattle.pim_mrib.{proofs.Preferences.route_is_short}
use Rattle.pim_mrib.proofs.mrib.Mrib.proof_short_preferences.Goals as goal

pub returns : goal.returns
returns c = rw (← c.self.view_is)
    (λ configured up address. route_is_short configured up c.self.inside.routes address c.self.invariant.0)
