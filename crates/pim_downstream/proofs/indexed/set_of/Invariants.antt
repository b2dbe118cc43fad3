use Rattle.std.{proofs.Common.{◌≡◌, take}}
use Rattle.pim_types.{specs.declared.fact.Key.Key}
use Rattle.pim_model.{specs.Downstream.is_named}
use Rattle.pim_downstream.proofs.indexed.set_of.Given as goal

abbrev pub invariant-loop-key : goal.invariant-loop-key
invariant-loop-key l = (q : Key) → is_named l.set.keys q ≡ is_named (take l.key-index l.keys) q
