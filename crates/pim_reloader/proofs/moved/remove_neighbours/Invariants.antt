use Rattle.std.{proofs.Common.{◌≡◌, drop, fold}}
use Rattle.pim_model.{specs.Tables.drop_at}
use Rattle.pim_reloader.proofs.moved.remove_neighbours.Given as goal

abbrev pub invariant-loop-key : goal.invariant-loop-key
invariant-loop-key l = record {
  neighbours : fold drop_at l.world.neighbours (drop l.key-index l.keys) ≡ fold drop_at l.fn.world.neighbours l.keys;
  rest : l.world ≡ record l.fn.world { neighbours = l.world.neighbours };
}
