use Rattle.std.{proofs.Common.{refl, sym, ◌∙◌}}
use Rattle.pim_model.{specs.{declared.accepted.Accepted.Accepted, Full.is_full}}
use Rattle.pim_plan.{specs.{Planning.touched_of, declared.act.{Act.Act, Control.Control}}, proofs.{Plans.{keys_fit, these_where, those_where}, Touching.{moved_covered, reported_covered}}}
use Rattle.pim_plan.proofs.plan.plan_report.Goals as goal

pub returns-then-branch : goal.returns-then-branch
unfolding is_full
returns-then-branch c = sym c.in_ok-is_full.ensures ∙ c.if-branch.true

pub returns-then-all_renew : goal.returns-then-all_renew
unfolding is_full
returns-then-all_renew c = record {
  event = refl;
  room = sym c.in_ok-is_full.ensures ∙ c.if-branch.false;
  renews = sym c.all_renew.ensures ∙ c.if-all_renew.true;
}

pub returns-then-all_keep_modes : goal.returns-then-all_keep_modes
unfolding is_full touched_of
returns-then-all_keep_modes c =
    keys_fit c.args.world.now (Accepted.Report c.args.iface c.args.report) c.of_keys.result
    (Act.Control (Control.Report c.args.iface c.args.report)) refl tt
    (sym c.in_ok-is_full.ensures ∙ c.if-branch.false) c.in_ok-moved.moved c.of_keys.ensures
    (these_where _ c.in_ok-moved.moved _ _ (sym c.all_keep_modes.ensures ∙ c.if-all_keep_modes.true) c.in_ok-moved.ensures)
    (moved_covered c.args.world.now c.args.iface c.args.report c.in_ok-moved.moved c.requires.settled
    (sym c.all_keep_modes.ensures ∙ c.if-all_keep_modes.true) c.in_ok-moved.ensures)

pub returns : goal.returns
unfolding is_full touched_of
returns c =
    keys_fit c.args.world.now (Accepted.Report c.args.iface c.args.report) c.of_keys-2.result
    (Act.Control (Control.Report c.args.iface c.args.report)) refl tt
    (sym c.in_ok-is_full.ensures ∙ c.if-branch.false) c.in_ok-keys.keys c.of_keys-2.ensures
    (those_where _ c.in_ok-keys.keys _ _ (sym c.all_keep_modes.ensures ∙ c.if-all_keep_modes.false) c.in_ok-keys.ensures)
    (reported_covered c.args.world.now c.args.iface c.args.report c.in_ok-keys.keys c.requires.settled
    c.in_ok-keys.ensures)
