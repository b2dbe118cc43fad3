use Rattle.std.{proofs.Common.{Some, arith, subst}}
use Rattle.pim_timers.{specs.{Armed.holds, Dues.IsFirst}, proofs.{Armed.{now_armed, put_grows, put_held}, SameDues.is_just, Held.left_in}}
use Rattle.pim_timers.proofs.queue.Queue.move_first.Goals as goal

pub returns-then-eq-clause-others : goal.returns-then-eq-clause-others
returns-then-eq-clause-others c = λ d other held. left_in _ _ _ (c.take_first.ensures.held d) other held

pub returns-then-eq-clause-moved : goal.returns-then-eq-clause-moved
returns-then-eq-clause-moved c = λ m is later.
    let again : IsFirst (holds c.take_first.new.self) (Some c.args.first) =
    subst (IsFirst (holds c.take_first.new.self)) (is_just c.first.result c.args.first c.if-eq.ensures) c.first.ensures in
    (c.args.first.0, later, again.0)

pub returns-then-eq-clause-fewer : goal.returns-then-eq-clause-fewer
returns-then-eq-clause-fewer c = λ p is other. c.take_first.ensures.fewer p is

pub returns-in-Some-clause-others : goal.returns-in-Some-clause-others
returns-in-Some-clause-others c = λ d other held.
    put_grows (holds c.take_first.new.self) (holds c.push_in_room.new.self) (c.in-Some.moment, c.args.first.1) c.push_in_room.ensures.held d
    (left_in _ _ _ (c.take_first.ensures.held d) other held)

pub returns-in-Some-clause-moved : goal.returns-in-Some-clause-moved
returns-in-Some-clause-moved c = λ m is later.
    now_armed (holds c.push_in_room.new.self) c.args.first.1 c.args.to c.in-Some.moment c.in-Some.is
    (put_held (holds c.take_first.new.self) (holds c.push_in_room.new.self) (c.in-Some.moment, c.args.first.1) c.push_in_room.ensures.held) m is

pub returns-in-Some-clause-fewer : goal.returns-in-Some-clause-fewer
returns-in-Some-clause-fewer c = λ p is other.
    let same = c.push_in_room.ensures.aside p (other c.in-Some.moment c.in-Some.is) in
    let less = c.take_first.ensures.fewer p is in
    omega (arith, same, less)

pub returns-in_default-clause-others : goal.returns-in_default-clause-others
returns-in_default-clause-others c = λ d other held. left_in _ _ _ (c.take_first.ensures.held d) other held

pub returns-in_default-clause-fewer : goal.returns-in_default-clause-fewer
returns-in_default-clause-fewer c = λ p is other. c.take_first.ensures.fewer p is
