use Rattle.std.{proofs.Common.◌∙◌}
use Rattle.pim_reloader.{proofs.Placed.parted_is}
use Rattle.pim_reloader.proofs.moved.part.Goals as goal

pub returns : goal.returns
returns c =
    parted_is c.args.world.now c.remove_neighbours.new.world _ c.args.places.now c.remove_neighbours.ensures
    (c.deref.ensures.value ∙ c.in_ok-keys.ensures) (rw c.neighbours.ensures at c.len.ensures.ascending)
