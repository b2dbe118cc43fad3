use Rattle.std.{proofs.Common.{◌≡◌, ◌++◌, map, take, drop}}
use Rattle.law_states.{specs.Placing.{number_at, leaving_on}}
use Rattle.pim_reloader.proofs.numbering.leave_by_numbers.Given as goal

abbrev pub invariant-loop-emission : goal.invariant-loop-emission
invariant-loop-emission l =
    l.sent
    ≡ map (leaving_on (number_at l.numbers)) (take l.emission-index l.initial.sent) ++ drop l.emission-index l.initial.sent
