use Rattle.std.{proofs.Common.{ap, is_some, sym, ◌∙◌}}
use Rattle.pim_model.{specs.Tables.has_row}
use Rattle.pim_tables.{proofs.Standing.has}
use Rattle.pim_tables.proofs.placed.Placed.place.Goals as goal

pub returns : goal.returns
unfolding has_row
returns g c = rw (← c.self.view_is) (ap is_some c.get.ensures ∙ sym (has _ _ c.self.invariant c.args.key))
