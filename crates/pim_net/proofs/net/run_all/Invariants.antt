-- The first moves, as many as the loop has come to, were done, and no call of the wire failed.
use Rattle.std.{proofs.Common.{◌≡◌, take}, specs.Prelude.IfSome}
use Rattle.pim_net.{specs.Carried.HasMoved}
use Rattle.pim_net.proofs.net.run_all.Given as goal

abbrev pub invariant-loop-one : goal.invariant-loop-one
invariant-loop-one g l =
    IfSome l.fn.network (λ n. HasMoved g.W.Wire.is_faithful g.W.Wire.sends g.W.Wire.gives l.ports n l.fn.wire
    (take l.one-index l.moves) l.log.items l.network l.wire
    × (g.W.Wire.failures l.wire ≡ g.W.Wire.failures l.fn.wire))
