use Rattle.std.{proofs.Common.{[], refl, sym, ◌∙◌}}
use Rattle.pim_model.{specs.{declared.accepted.Accepted.Accepted, Full.is_full}}
use Rattle.pim_plan.{specs.{Planning.touched_of, declared.act.{Act.Act, Control.Control}}, proofs.{Plans.{keys_fit, these_where, those_where}, Touching.{assert_covered, assert_known}}}
use Rattle.pim_plan.proofs.plan.plan_assert.Goals as goal

pub returns-then-is_full : goal.returns-then-is_full
unfolding is_full
returns-then-is_full c = sym c.is_full.ensures ∙ c.if-is_full.true

pub returns-then-is_assert_known : goal.returns-then-is_assert_known
unfolding is_full touched_of
returns-then-is_assert_known c =
    keys_fit c.args.world.now (Accepted.Assert c.args.iface c.args.from c.args.assert) c.of_nothing.result
    (Act.Control (Control.Assert c.args.iface c.args.from c.args.assert)) refl tt
    (sym c.is_full.ensures ∙ c.if-is_full.false) [] (rw c.assert_act.ensures at c.of_nothing.ensures)
    (these_where _ [] [] _ (sym c.is_assert_known.ensures ∙ c.if-is_assert_known.true) refl)
    (assert_known c.args.world.now c.requires c.args.iface c.args.from c.args.assert []
    (sym c.is_assert_known.ensures ∙ c.if-is_assert_known.true) refl)

pub returns : goal.returns
unfolding is_full touched_of
returns c =
    keys_fit c.args.world.now (Accepted.Assert c.args.iface c.args.from c.args.assert) c.of_keys.result
    (Act.Control (Control.Assert c.args.iface c.args.from c.args.assert)) refl tt
    (sym c.is_full.ensures ∙ c.if-is_full.false) c.in_ok-keys.keys (rw c.assert_act-2.ensures at c.of_keys.ensures)
    (those_where _ c.in_ok-keys.keys [] _ (sym c.is_assert_known.ensures ∙ c.if-is_assert_known.false) c.in_ok-keys.ensures)
    (assert_covered c.args.world.now c.requires c.args.iface c.args.from c.args.assert c.in_ok-keys.keys c.in_ok-keys.ensures)
