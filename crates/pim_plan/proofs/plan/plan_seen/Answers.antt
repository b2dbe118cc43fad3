use Rattle.std.{proofs.Common.{List, ap, filter, not, refl, ◌∙◌}}
use Rattle.pim_types.{specs.{declared.fact.Key.Key, Keys.is_star}}
use Rattle.pim_model.{specs.{declared.accepted.Accepted.Accepted, Full.is_full}}
use Rattle.pim_state.{specs.declared.touched.Touched.Touched}
use Rattle.pim_plan.{specs.{Planning.touched_of, declared.act.{Act.Act, Control.Control}}, proofs.{Plans.keys_fit, Touching.seen_covered}}
use Rattle.pim_plan.proofs.plan.plan_seen.Goals as goal

pub returns : goal.returns
unfolding is_full touched_of
returns c =
    let those = c.in_ok-keys.ensures ∙ ap (λ (ks : List Key). filter (λ k. not (is_star k)) ks) c.deref.ensures.value in
    keys_fit c.args.world.now (Accepted.JoinPruneSeen c.args.iface c.args.message) c.of_keys.result
    (Act.Control (Control.JoinPruneSeen c.args.iface c.args.message c.in_ok-named.named)) refl
    (record { joins = c.in_ok-named.ensures.joined; prunes = c.in_ok-named.ensures.pruned }) refl
    c.in_ok-keys.keys c.of_keys.ensures
    (ap Touched.Keys (those ∙ ap (λ (ks : List Key). filter (λ k. not (is_star k)) ks) c.in_ok-named.ensures.pruned))
    (seen_covered c.args.world.now c.args.iface c.args.message _ c.in_ok-keys.keys c.in_ok-named.ensures.pruned those)
