use Rattle.std.{proofs.Common.{ap, ◌∙◌}, specs.Ordering.is_lt}
use Rattle.pim_timers.{proofs.Ranks.due_order}
use Rattle.pim_tables.proofs.first.comes_before.Goals as goal

pub returns : goal.returns
returns c = c.is_lt.ensures ∙ ap is_lt (c.cmp.ensures ∙ due_order c.args.first c.args.second)
