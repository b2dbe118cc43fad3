use Rattle.pim_model.{specs.{Sets.assert_star, Tables.has_row}}
use Rattle.pim_macros.{proofs.Asserted.asserted_shown}
use Rattle.pim_macros.proofs.sight.StarSight.asserted.Goals as goal

pub returns : goal.returns
unfolding has_row
returns c s h = asserted_shown _ _ _ (assert_star s c.args.self.now.group.bits) h.lost h.won c.union.ensures.interfaces
