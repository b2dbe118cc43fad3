use Rattle.std.{proofs.{Common.{◌||◌, ap, arith, sym, ◌∙◌}, Math.Bool.or-false}, specs.List.{filter, list_any}}
use Rattle.pim_model.{specs.Records.is_at_group}
use Rattle.igmp_membership.{proofs.Found.{near_all, next_interface, none_before}, specs.Sources.{has_number, is_of_source}}
use Rattle.igmp_membership.proofs.sendings.Sendings.gather_sources.Goals as goal

pub loop-number-init : goal.loop-number-init
loop-number-init c = λ n.
    sym (ap (λ b. has_number n c.args.found.now.entries || b) (none_before c.args.group.bits n c.args.self.now)
    ∙ or-false (has_number n c.args.found.now.entries))

pub loop-number-preserved : goal.loop-number-preserved
loop-number-preserved c = λ n.
    next_interface c.args.group.bits n c.loop-number.number c.args.self.now (has_number n c.args.found.now.entries)
    (has_number n c.loop-number.found.entries) _ (c.loop-number.invariant n)
    (c.in_ok-gather.ensures n
    ∙ ap (λ t. has_number n c.loop-number.found.entries || list_any (λ e. is_of_source n e.0) t)
    (c.rows_at.ensures
    ∙ ap (λ t. filter (λ e. is_at_group c.loop-number.number c.args.group.bits e.0) t) c.self.view_is))

pub returns : goal.returns
returns c = λ n.
    c.loop-number.invariant n
    ∙ ap (λ b. has_number n c.args.found.now.entries || b)
    (near_all c.args.group.bits n c.iter.result c.args.self.now c.above_interfaces-number-end.result c.loop-number.number
    c.above_interfaces-number-end.ensures.above (c.iter.ensures ∙ c.self.view_is)
    (omega (arith, c.loop-number-test.false)))
