use Rattle.std.{proofs.Common.◌≡◌, specs.List.list_any}
use Rattle.pim_hello.{specs.Election.{is_other, is_unranked, some_other}}
use Rattle.pim_hello.proofs.election.some_other_unranked.Given as goal

abbrev pub invariant-loop-other : goal.invariant-loop-other
invariant-loop-other l =
    list_any (is_other l.key is_unranked) l.other-iterator
    ≡ some_other l.key is_unranked l.fn.world.neighbours
