use Rattle.std.{proofs.Common.{ap, sym, ◌∙◌}}
use Rattle.pim_timers.{proofs.Entries.len_contents}
use Rattle.std.specs.FinMap as finmap
use Rattle.pim_timers.proofs.moments.Moments.len.Goals as goal

pub returns : goal.returns
returns c = c.len.ensures.len ∙ sym (len_contents c.self.inside.moments.entries c.len.ensures.ordered)
    ∙ ap finmap.len c.self.view_is
