use Rattle.std.{proofs.Common.{sym, ◌∙◌}}
use Rattle.pim_tables.{proofs.Standing.counted}
use Rattle.pim_tables.proofs.placed.PlacedReadRows.count.Goals as goal

pub returns : goal.returns
returns g c = rw (← c.self.view_is) (c.len.ensures.count ∙ sym (counted _ _ c.self.invariant))
