use Rattle.std.{proofs.Common.{ap, sym, ◌∙◌}, specs.Option.option_copied}
use Rattle.pim_store.{specs.{Said.{timer_in, tunnel_in}, declared.marks.Marks.Marks}, proofs.Timers.found_timer}
use Rattle.pim_store.proofs.index.Index.get.Goals as goal

pub returns-in-Some-clause-bare : goal.returns-in-Some-clause-bare
returns-in-Some-clause-bare c = λ x.
    ap (tunnel_in x) c.marks.ensures
    ∙ (c.self.invariant.entries _ c.in-Some.entry.now (sym c.get.ensures.value ∙ ap option_copied c.in-Some.is)).bare x

pub returns-in-Some-clause-timer : goal.returns-in-Some-clause-timer
returns-in-Some-clause-timer c = rw (← c.self.view_is)
    (ap (λ (m : Marks). m.join_timer) c.marks.ensures ∙ ap timer_in (sym (ap option_copied c.in-Some.is)) ∙ ap timer_in c.get.ensures.value)

pub returns-in-Some-clause-row : goal.returns-in-Some-clause-row
returns-in-Some-clause-row c = rw (← c.self.view_is)
    (ap (λ (m : Marks). m.join_timer) c.marks.ensures ∙ ap timer_in (sym (ap option_copied c.in-Some.is)) ∙ ap timer_in c.get.ensures.value
    ∙ sym (found_timer _ c.is_empty.ensures.ascending _))

pub returns-in-None-clause-row : goal.returns-in-None-clause-row
returns-in-None-clause-row c = rw (← c.self.view_is)
    (c.none.ensures.timer ∙ ap timer_in (sym (ap option_copied c.in-None.is)) ∙ ap timer_in c.get.ensures.value
    ∙ sym (found_timer _ c.is_empty.ensures.ascending _))

pub returns-in-Some-clause-entries : goal.returns-in-Some-clause-entries
returns-in-Some-clause-entries c = rw (← c.self.view_is) c.self.invariant.entries

pub returns-in-None-clause-entries : goal.returns-in-None-clause-entries
returns-in-None-clause-entries c = rw (← c.self.view_is) c.self.invariant.entries
