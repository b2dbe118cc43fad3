-- A prefix that is no range.
use Rattle.std.{proofs.Common.{sym, ◌∙◌}}
use Rattle.pim_scenario.{proofs.StandingLemmas.not_range}
use Rattle.pim_scenario.proofs.scenario.standing.read_range.Goals as goal

pub returns-then-not-is_range : goal.returns-then-not-is_range
returns-then-not-is_range c q is = not_range _ _ q c.in_ok-range.ensures (sym c.is_range.ensures ∙ c.if-not-is_range.true) is
