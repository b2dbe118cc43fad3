use Rattle.std.{proofs.Common.{◌≡◌, ◌++◌, filter}}
use Rattle.pim_model.{specs.Querier.is_sending}
use Rattle.pim_querier.proofs.sendings.sendings_at.Given as goal

abbrev pub invariant-loop-key : goal.invariant-loop-key
invariant-loop-key l =
    l.sendings.items ++ l.key-iterator ≡ filter (is_sending l.fn.place.iface.number l.fn.place.group.bits) l.world.sendings
