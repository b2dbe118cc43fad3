use Rattle.pim_tables.{proofs.Standing.rising}
use Rattle.pim_tables.proofs.placed.PlacedReadRows.proof_rise.Goals as goal

pub returns : goal.returns
returns g c = rw (← c.self.view_is) (rising _ _ c.self.invariant)
