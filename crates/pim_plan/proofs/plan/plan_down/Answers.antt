use Rattle.std.{proofs.Common.{refl, sym, ◌∙◌}}
use Rattle.pim_model.{specs.{declared.accepted.Accepted.Accepted, Full.is_full}}
use Rattle.law_events.{specs.Switched.is_in_use, proofs.Switched.down_moves_none}
use Rattle.pim_plan.{specs.{Planning.touched_of, declared.act.{Act.Act, Control.Control}}, proofs.Plans.{all_fit, all_where, none_fits, none_where}}
use Rattle.pim_plan.proofs.plan.plan_down.Goals as goal

pub returns-then-is_in_use : goal.returns-then-is_in_use
unfolding is_full touched_of
returns-then-is_in_use c =
    all_fit c.args.world.now (Accepted.Down c.args.iface) c.of_all.result (Act.Control (Control.Down c.args.iface)) refl tt refl
    c.of_all.ensures
    (all_where (is_in_use c.args.world.now c.args.iface.number) (sym c.is_in_use.ensures ∙ c.if-is_in_use.true)) tt

pub returns : goal.returns
unfolding is_full touched_of
returns c =
    none_fits c.args.world.now (Accepted.Down c.args.iface) c.of_nothing.result (Act.Control (Control.Down c.args.iface)) refl tt
    refl c.of_nothing.ensures
    (none_where (is_in_use c.args.world.now c.args.iface.number) (sym c.is_in_use.ensures ∙ c.if-is_in_use.false))
    (λ w. down_moves_none c.args.world.now w c.args.iface (sym c.is_in_use.ensures ∙ c.if-is_in_use.false))
