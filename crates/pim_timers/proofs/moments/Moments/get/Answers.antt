use Rattle.std.{proofs.Common.{ap, sym, ◌∙◌}}
use Rattle.pim_timers.{proofs.Entries.get_contents}
use Rattle.std.specs.FinMap as finmap
use Rattle.pim_timers.proofs.moments.Moments.get.Goals as goal

pub returns : goal.returns
returns c = c.copied.ensures ∙ c.get.ensures.value ∙ sym (get_contents c.self.inside.moments.entries c.args.timer)
    ∙ ap (λ s. finmap.get s c.args.timer) c.self.view_is
