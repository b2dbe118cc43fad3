use Rattle.std.{proofs.Common.{refl, sym, ◌∙◌}}
use Rattle.pim_model.{specs.{declared.accepted.Accepted.Accepted, Full.is_full}}
use Rattle.law_events.{specs.Switched.may_lead_over, proofs.Switched.up_moves_none}
use Rattle.pim_plan.{specs.{Planning.touched_of, declared.act.{Act.Act, Control.Control}}, proofs.Plans.{all_fit, all_where, none_fits, none_where}}
use Rattle.pim_plan.proofs.plan.plan_up.Goals as goal

pub returns-then-may_lead_over : goal.returns-then-may_lead_over
unfolding is_full touched_of
returns-then-may_lead_over c =
    all_fit c.args.world.now (Accepted.Up c.args.iface) c.of_all.result (Act.Control (Control.Up c.args.iface)) refl tt refl
    c.of_all.ensures
    (all_where (may_lead_over c.args.world.now c.args.iface.number) (sym c.may_lead_over.ensures ∙ c.if-may_lead_over.true)) tt

pub returns : goal.returns
unfolding is_full touched_of
returns c =
    none_fits c.args.world.now (Accepted.Up c.args.iface) c.of_nothing.result (Act.Control (Control.Up c.args.iface)) refl tt
    refl c.of_nothing.ensures
    (none_where (may_lead_over c.args.world.now c.args.iface.number) (sym c.may_lead_over.ensures ∙ c.if-may_lead_over.false))
    (λ w. up_moves_none c.args.world.now w c.args.iface (sym c.may_lead_over.ensures ∙ c.if-may_lead_over.false))
