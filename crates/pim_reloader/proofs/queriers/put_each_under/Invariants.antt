use Rattle.std.{proofs.Common.{◌≡◌, drop}}
use Rattle.law_settled.{specs.Rows.all_changed}
use Rattle.pim_reloader.{specs.Asking.asking}
use Rattle.pim_reloader.proofs.queriers.put_each_under.Given as goal

abbrev pub invariant-loop-key : goal.invariant-loop-key
invariant-loop-key l = record {
  queriers : all_changed (asking l.fn.world) l.world.queriers (drop l.key-index l.keys)
      ≡ all_changed (asking l.fn.world) l.fn.world.queriers l.keys;
  rest : l.world ≡ record l.fn.world { queriers = l.world.queriers };
}
