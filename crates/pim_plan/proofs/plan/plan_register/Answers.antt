use Rattle.std.{proofs.Common.{◌∷◌, [], ap, refl, sym, ◌≡◌, ◌∙◌}}
use Rattle.pim_types.{specs.{Keys.source_key, declared.fact.Key.Key}}
use Rattle.pim_wire.{specs.RegisterParts.{registered_group, registered_source}}
use Rattle.pim_model.{specs.{declared.accepted.Accepted.Accepted, Full.is_full, Sets.is_kept_alive}}
use Rattle.pim_plan.{specs.{Planning.touched_of, declared.act.Act.Act}, proofs.{Plans.{keys_fit, these_where, those_where}, Touching.{register_covered, register_known}}}
use Rattle.pim_plan.proofs.plan.plan_register.Goals as goal

pub returns-then-is_full : goal.returns-then-is_full
unfolding is_full
returns-then-is_full c = sym c.is_full.ensures ∙ c.if-is_full.true

pub returns : goal.returns
unfolding is_full touched_of
returns c =
    let name = c.registered_name-name.ensures in
    let those = c.in_ok-keys.ensures ∙ ap (λ (k : Key). k ∷ []) (c.key.ensures
    ∙ (λ j. source_key 0 (name.group j) (name.source j))) in
    let s = c.args.world.now in
    let alive : is_kept_alive s c.registered_name-name.result.group.bits c.registered_name-name.result.source.bits
    ≡ is_kept_alive s (registered_group c.args.register) (registered_source c.args.register) =
    λ j. is_kept_alive s (name.group j) (name.source j) in
    keys_fit c.args.world.now (Accepted.Register c.args.packet c.args.register) c.of_keys.result
    (Act.Register c.args.packet c.args.register) refl tt (sym c.is_full.ensures ∙ c.if-is_full.false)
    c.in_ok-keys.keys c.of_keys.ensures
    (those_where _ c.in_ok-keys.keys [] _ (sym alive ∙ sym c.is_kept_alive.ensures ∙ c.if-is_kept_alive.false) those)
    (register_covered c.args.world.now c.args.packet c.args.register c.in_ok-keys.keys those)

pub returns-then-is_kept_alive : goal.returns-then-is_kept_alive
unfolding is_full touched_of
returns-then-is_kept_alive c =
    let name = c.registered_name-name.ensures in
    let s = c.args.world.now in
    let alive : is_kept_alive s c.registered_name-name.result.group.bits c.registered_name-name.result.source.bits
    ≡ is_kept_alive s (registered_group c.args.register) (registered_source c.args.register) =
    λ j. is_kept_alive s (name.group j) (name.source j) in
    let kept = sym alive ∙ sym c.is_kept_alive.ensures ∙ c.if-is_kept_alive.true in
    keys_fit c.args.world.now (Accepted.Register c.args.packet c.args.register) c.of_nothing.result
    (Act.Register c.args.packet c.args.register) refl tt (sym c.is_full.ensures ∙ c.if-is_full.false)
    [] c.of_nothing.ensures (these_where _ [] [] _ kept refl)
    (register_known c.args.world.now c.requires c.args.packet c.args.register [] kept refl)
