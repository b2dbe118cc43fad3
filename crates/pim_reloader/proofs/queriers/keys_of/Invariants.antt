use Rattle.std.{proofs.Common.{◌≡◌, ◌++◌}}
use Rattle.pim_model.{specs.Tables.keys_in}
use Rattle.pim_reloader.proofs.queriers.keys_of.Given as goal

abbrev pub invariant-loop-key : goal.invariant-loop-key
invariant-loop-key l = l.keys.items ++ keys_in l.key-iterator ≡ keys_in l.fn.world.queriers
