use Rattle.std.{proofs.Common.{[], refl}}
use Rattle.pim_model.{specs.{declared.accepted.Accepted.Accepted, Full.is_full}}
use Rattle.pim_plan.{specs.{Planning.touched_of, declared.act.{Act.Act, Control.Control}}, proofs.{Plans.keys_fit, Touching.queried_covered}}
use Rattle.pim_plan.proofs.plan.plan_query.Goals as goal

pub returns : goal.returns
unfolding is_full touched_of
returns c =
    keys_fit c.args.world.now (Accepted.Query c.args.iface c.args.from c.args.query) c.of_nothing.result
    (Act.Control (Control.Query c.args.iface c.args.from c.args.query)) refl tt refl [] c.of_nothing.ensures refl
    (queried_covered c.args.world.now c.args.iface c.args.from c.args.query [] refl)
