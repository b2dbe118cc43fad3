use Rattle.std.{proofs.Common.{◌==◌, Some, not, arith, sym, ap, ◌∙◌}, specs.Option.option_eq}
use Rattle.pim_timers.{specs.{Armed.holds, Ends.ends_at}, proofs.Armed.{end_is, moved_armed, no_such_end, real_one, such_an_end}}
use Rattle.pim_timers.proofs.queue.Queue.put_right.Goals as goal

pub returns-then-eq-clause-real : goal.returns-then-eq-clause-real
returns-then-eq-clause-real g c =
    real_one (g.S.Schedule.end_of c.args.schedule.now) (holds c.loop-first.self) c.in-Some.first c.in-Some.ensures
    (sym c.end_of-end.ensures ∙ end_is c.end_of-end.result c.in-Some.first.0 (sym c.eq.ensures ∙ c.if-eq.true))

pub loop-first-smaller : goal.loop-first-smaller
loop-first-smaller g c =
    c.move_first.ensures.fewer (λ d. not (ends_at (g.S.Schedule.end_of c.args.schedule.now d.1) d.0))
    (no_such_end _ c.in-Some.first.0
    (ap (λ o. option_eq (λ x y. x == y) o (Some c.in-Some.first.0)) (sym c.end_of-end.ensures) ∙ sym c.eq.ensures ∙ c.if-eq.false)) (λ m is. such_an_end _ m (sym c.end_of-end.ensures ∙ is))

pub loop-first-preserved : goal.loop-first-preserved
loop-first-preserved g c = record {
  armed =
      moved_armed (g.S.Schedule.end_of c.args.schedule.now) (holds c.loop-first.self) (holds c.move_first.new.self)
      c.in-Some.first c.loop-first.invariant.armed c.move_first.ensures.others
      (λ m is later. c.move_first.ensures.moved m (c.end_of-end.ensures ∙ is) later);
  few = omega (arith, c.move_first.ensures.few, c.loop-first.invariant.few);
}
