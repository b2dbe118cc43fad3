use Rattle.std.{proofs.Common.{◌≡◌, ◌++◌, map, take, drop}}
use Rattle.law_states.{specs.Placing.{index_of, leaving_on}}
use Rattle.pim_reloader.proofs.numbering.leave_by_indices.Given as goal

abbrev pub invariant-loop-emission : goal.invariant-loop-emission
invariant-loop-emission l =
    l.sent
    ≡ map (leaving_on (index_of l.numbers)) (take l.emission-index l.initial.sent) ++ drop l.emission-index l.initial.sent
