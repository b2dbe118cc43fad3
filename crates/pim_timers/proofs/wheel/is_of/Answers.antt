use Rattle.std.{proofs.Common.{◌≡◌, false, sym, subst, ◌∙◌}}
use Rattle.pim_timers.{specs.{Dues.Due, Ends.same_timer}, proofs.{Held.of_some, Ranks.timer_ties}}
use Rattle.pim_timers.proofs.wheel.is_of.Goals as goal

pub returns-in-Some : goal.returns-in-Some
returns-in-Some c = λ other d is.
    subst (λ (e : Due). same_timer e.1 c.args.timer ≡ false)
    (of_some (c.in-Some.field-0-0, c.in-Some.first) d (sym c.in-Some.is ∙ is))
    (sym (timer_ties c.in-Some.first c.args.timer) ∙ sym c.eq.ensures ∙ other)
