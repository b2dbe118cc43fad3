use Rattle.std.{proofs.Common.{sym, ◌∙◌}}
use Rattle.pim_timers.{specs.Dues.is_among, proofs.Together.{cancelled, not_set}}
use Rattle.pim_timers.proofs.sorted.SortedTimersTimers.cancel.Goals as goal

pub invariant_of-self : goal.invariant_of-self
invariant_of-self c = rw c.remove.ensures.contents
    (cancelled c.self.inside.moments (is_among c.self.inside.dues) c.self.invariant c.args.timer
    c.in-Some.before (is_among c.remove-in-Some.new.self)
    (sym c.remove.ensures.before ∙ c.in-Some.is) c.remove-in-Some.ensures)

pub invariant_of-self-in_default : goal.invariant_of-self-in_default
invariant_of-self-in_default c = rw c.remove.ensures.contents
    (not_set c.self.inside.moments (is_among c.self.inside.dues) c.self.invariant c.args.timer
    (sym c.remove.ensures.before ∙ c.in_default.is))
