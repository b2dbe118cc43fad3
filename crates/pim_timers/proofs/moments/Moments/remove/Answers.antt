use Rattle.std.{proofs.Common.{ap, sym, ◌∙◌}}
use Rattle.pim_timers.{proofs.Entries.{get_contents, removed}}
use Rattle.std.specs.FinMap as finmap
use Rattle.pim_timers.proofs.moments.Moments.remove.Goals as goal

pub returns-clause-before : goal.returns-clause-before
returns-clause-before c = c.remove.ensures.value ∙ sym (get_contents c.self.inside.moments.entries c.args.timer)
    ∙ ap (λ s. finmap.get s c.args.timer) c.self.view_is

pub returns-clause-contents : goal.returns-clause-contents
returns-clause-contents c = removed c.self.inside.moments.entries c.remove.new.self.entries c.args.timer
    c.remove.ensures.updates.0 ∙ ap (λ s. finmap.remove s c.args.timer) c.self.view_is
