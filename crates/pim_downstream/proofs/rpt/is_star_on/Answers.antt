use Rattle.std.{proofs.Common.{ap, ◌∙◌}, specs.Ordering.is_eq}
use Rattle.pim_types.{specs.Keys.{addr_cmp, key_cmp}}
use Rattle.pim_downstream.proofs.rpt.is_star_on.Goals as goal

pub returns : goal.returns
unfolding key_cmp addr_cmp
returns c = c.is_eq.ensures ∙ ap is_eq (c.cmp.ensures ∙ ap (λ k. key_cmp k c.args.key) c.star.ensures)
