use Rattle.std.{proofs.Common.{◌≡◌, ◌++◌, take}}
use Rattle.pim_upstream.{specs.Hearing.heard_in_joins}
use Rattle.pim_upstream.proofs.overheard.hear_joins.Given as goal

abbrev pub invariant-loop-key : goal.invariant-loop-key
invariant-loop-key l =
    l.moves.items ≡ l.fn.moves.items ++ heard_in_joins l.world l.hop l.end l.is_star (take l.key-index l.keys)
