use Rattle.pim_model.{specs.{Sets.assert_source, Tables.has_row}}
use Rattle.pim_macros.{proofs.Asserted.asserted_shown}
use Rattle.pim_macros.proofs.sight.SourceSight.asserted.Goals as goal

pub returns : goal.returns
unfolding has_row
returns c s h =
    asserted_shown _ _ _ (assert_source s c.args.self.now.star.group.bits c.args.self.now.source.bits) h.lost h.won
    c.union.ensures.interfaces
