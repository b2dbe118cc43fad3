use Rattle.std.{proofs.Common.{◌≡◌, ◌++◌, map}}
use Rattle.pim_session.{specs.Front.emission_leaving}
use Rattle.pim_session.proofs.front.Front.emissions_leaving.Given as goal

abbrev pub invariant-loop-emission : goal.invariant-loop-emission
invariant-loop-emission l =
    l.left.items ++ map (emission_leaving l.self) l.emission-iterator.rest.items ≡ map (emission_leaving l.self) l.fn.sent.items
