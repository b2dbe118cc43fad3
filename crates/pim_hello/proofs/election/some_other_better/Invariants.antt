use Rattle.std.{proofs.Common.◌≡◌, specs.List.list_any}
use Rattle.pim_model.{specs.Neighbours.is_better_dr}
use Rattle.pim_hello.{specs.Election.{is_other, some_other}}
use Rattle.pim_hello.proofs.election.some_other_better.Given as goal

abbrev pub invariant-loop-other : goal.invariant-loop-other
invariant-loop-other l =
    list_any (is_other l.key (is_better_dr l.by_priority l.own.priority l.own.address.bits)) l.other-iterator
    ≡ some_other l.key (is_better_dr l.by_priority l.own.priority l.own.address.bits) l.fn.world.neighbours
