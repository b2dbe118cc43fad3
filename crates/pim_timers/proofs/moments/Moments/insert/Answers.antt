use Rattle.std.{proofs.Common.{ap, sym, ◌∙◌}}
use Rattle.pim_timers.{proofs.{Lookups.on_err_always, Entries.{get_contents, inserted}}}
use Rattle.std.specs.FinMap as finmap
use Rattle.pim_timers.proofs.moments.Moments.insert.Goals as goal

pub returns-in_err-insert-clause-absent : goal.returns-in_err-insert-clause-absent
returns-in_err-insert-clause-absent c = on_err_always _
    (ap (λ s. finmap.get s c.args.timer) (sym c.self.view_is) ∙ get_contents c.self.inside.moments.entries c.args.timer
    ∙ c.in_err-insert.ensures.absent)

pub returns-clause-before : goal.returns-clause-before
returns-clause-before c = c.in_ok-insert.ensures.old ∙ sym (get_contents c.self.inside.moments.entries c.args.timer)
    ∙ ap (λ s. finmap.get s c.args.timer) c.self.view_is

pub returns-clause-ok : goal.returns-clause-ok
returns-clause-ok c = inserted c.self.inside.moments.entries c.insert.new.self.entries c.args.timer c.args.moment
    c.in_ok-insert.ensures.updates.0 ∙ ap (λ s. finmap.insert s c.args.timer c.args.moment) c.self.view_is
