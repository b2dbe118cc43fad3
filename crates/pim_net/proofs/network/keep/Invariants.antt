use Rattle.std.{proofs.Common.{◌≡◌, ◌++◌, map, take}, specs.Prelude.IfSome}
use Rattle.pim_model.{specs.Network.sent_by}
use Rattle.pim_net.proofs.network.keep.Given as goal

abbrev pub invariant-loop-emission : goal.invariant-loop-emission
invariant-loop-emission l =
    IfSome l.station (λ s. l.frames.items ≡ l.fn.frames.items ++ map (sent_by s.links) (take l.emission-index l.emissions))
