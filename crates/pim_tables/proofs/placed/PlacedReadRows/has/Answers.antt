use Rattle.std.{proofs.Common.{sym, ◌∙◌}}
use Rattle.pim_tables.{proofs.Standing.has}
use Rattle.pim_tables.proofs.placed.PlacedReadRows.has.Goals as goal

pub returns : goal.returns
returns g c = rw (← c.self.view_is) (c.contains.ensures ∙ sym (has _ _ c.self.invariant c.args.key))
