use Rattle.std.{proofs.{Common.{sym, ap, Some, ◌∙◌, ◌==◌, false, ℕ, ◌≡◌, arith}, lemmas.Bool.Decides.nat_tests}}
use Rattle.pim_timers.{specs.Dues.is_among, proofs.Together.{set_moved, set_new, set_same, set_undone}}
use Rattle.pim_timers.proofs.sorted.SortedTimersTimers.set.Goals as goal

differ : (a b : ℕ) → (a ≡ b → ⊥) → (a == b) ≡ false
differ a b apart = grind (arith, nat_tests)

pub invariant_of-self-then-before-moment : goal.invariant_of-self-then-before-moment
invariant_of-self-then-before-moment c = rw c.in-Ok-Some.ensures.ok
    (set_moved c.self.inside.moments (is_among c.self.inside.dues) c.self.invariant c.args.timer c.args.moment
    (is_among c.insert.new.self) c.in_ok-insert.ensures.ok
    c.in-Ok-Some.before (is_among c.remove.new.self) (sym c.in-Ok-Some.ensures.before ∙ c.in-Ok-Some.field-0-is)
    (differ c.in-Ok-Some.before c.args.moment c.if-before-moment.true) c.remove.ensures)

pub invariant_of-self-else-before-moment : goal.invariant_of-self-else-before-moment
invariant_of-self-else-before-moment c = rw c.in-Ok-Some.ensures.ok
    (set_same c.self.inside.moments (is_among c.self.inside.dues) c.self.invariant c.args.timer c.args.moment
    (is_among c.insert.new.self) c.in_ok-insert.ensures.ok
    (sym c.in-Ok-Some.ensures.before ∙ c.in-Ok-Some.field-0-is ∙ ap (λ (n : ℕ). Some n) c.if-before-moment.false))

pub invariant_of-self-in-Err : goal.invariant_of-self-in-Err
invariant_of-self-in-Err c = rw c.in-Err.ensures.err
    (set_undone c.self.inside.moments (is_among c.self.inside.dues) c.self.invariant c.args.timer c.args.moment
    (is_among c.insert.new.self) c.in_ok-insert.ensures.ok
    (is_among c.remove-in-Err.new.self) c.in-Err.ensures.absent c.remove-in-Err.ensures)

pub invariant_of-self-in-Ok-None : goal.invariant_of-self-in-Ok-None
invariant_of-self-in-Ok-None c = rw c.in-Ok-None.ensures.ok
    (set_new c.self.inside.moments (is_among c.self.inside.dues) c.self.invariant c.args.timer c.args.moment
    (is_among c.insert.new.self) c.in_ok-insert.ensures.ok
    (sym c.in-Ok-None.ensures.before ∙ c.in-Ok-None.field-0-is))
