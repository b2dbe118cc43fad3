use Rattle.pim_saver.{specs.Views.state_view}
use Rattle.pim_worlds.{proofs.Made.made_in_order}
use Rattle.pim_worlds.proofs.world.world_of.Goals as goal

pub returns-clause-made : goal.returns-clause-made
returns-clause-made c = made_in_order (state_view c.args.state.now) _ c.world_of_rows.ensures.made
