use Rattle.std.{proofs.Common.{◌≡◌, drop, fold}}
use Rattle.pim_model.{specs.Tables.drop_at}
use Rattle.pim_reloader.proofs.addresses.forget_asserts.Given as goal

abbrev pub invariant-loop-key : goal.invariant-loop-key
invariant-loop-key l = record {
  asserts : fold drop_at l.world.asserts (drop l.key-index l.keys) ≡ fold drop_at l.fn.world.asserts l.keys;
  rest : l.world ≡ record l.fn.world { asserts = l.world.asserts };
}
