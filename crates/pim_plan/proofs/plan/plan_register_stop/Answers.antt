use Rattle.std.{proofs.Common.{ap, refl}}
use Rattle.pim_model.{specs.{declared.accepted.Accepted.Accepted, Full.is_full}}
use Rattle.pim_state.{specs.declared.touched.Touched.Touched}
use Rattle.pim_plan.{specs.{Planning.touched_of, declared.act.{Act.Act, Control.Control}}, proofs.{Plans.keys_fit, Touching.stop_covered}}
use Rattle.pim_plan.proofs.plan.plan_register_stop.Goals as goal

pub returns : goal.returns
unfolding is_full touched_of
returns c =
    keys_fit c.args.world.now (Accepted.RegisterStop c.args.from c.args.stop) c.of_keys.result
    (Act.Control (Control.RegisterStop c.args.from c.args.stop)) refl tt refl c.in_ok-keys.keys c.of_keys.ensures
    (ap Touched.Keys c.in_ok-keys.ensures)
    (stop_covered c.args.world.now c.args.from c.args.stop c.in_ok-keys.keys c.in_ok-keys.ensures)
