use Rattle.std.{proofs.Common.{ap, refl, sym, ◌∙◌}}
use Rattle.pim_model.{specs.declared.accepted.Accepted.Accepted}
use Rattle.pim_state.{specs.declared.touched.Touched.Touched}
use Rattle.pim_downstream.{specs.Naming.changes_after}
use Rattle.pim_plan.{specs.{Planning.touched_of, declared.act.{Act.Act, Control.Control}}, proofs.{Plans.{join_prune_room, keys_fit}, Touching.{named_covered, named_keys}}}
use Rattle.pim_plan.proofs.plan.plan_join_prune.Goals as goal

pub returns-then-branch : goal.returns-then-branch
returns-then-branch c = record {
  message = c.args.message;
  event = refl;
  lasts = c.holdtime-holdtime.ensures;
  keys = record { joins = c.in_ok-named.ensures.joined; prunes = c.in_ok-named.ensures.pruned };
  again = sym c.in_ok-repeats.ensures ∙ c.if-branch.true;
}

pub returns-then-branch-2 : goal.returns-then-branch-2
returns-then-branch-2 c =
    join_prune_room c.args.world.now c.args.iface c.args.message _ _ _ _ _ c.holdtime-holdtime.ensures c.in_ok-named.ensures.joined
    c.in_ok-named.ensures.pruned c.in_ok-is_full.ensures c.if-branch-2.true

pub returns : goal.returns
unfolding touched_of
returns c =
    let lasts = c.holdtime-holdtime.ensures in
    let joins = c.in_ok-named.ensures.joined in
    let prunes = c.in_ok-named.ensures.pruned in
    let moves = c.in_ok-changes.ensures.moved in
    keys_fit c.args.world.now (Accepted.JoinPruneToMe c.args.iface c.args.message) c.of_keys.result
    (Act.Control (Control.JoinPruneToMe c.args.iface c.args.message c.in_ok-named.named c.in_ok-changes.field-0.changes)) refl (
      record { joins = joins; prunes = prunes },
      c.in_ok-changes.ensures.changes
          ∙ (λ j. changes_after c.args.world.now c.args.iface.number (lasts j) (joins j) (prunes j)),
    )
    (join_prune_room c.args.world.now c.args.iface c.args.message _ _ _ _ _ lasts joins prunes c.in_ok-is_full.ensures
    c.if-branch-2.false)
    c.in_ok-changes.field-0.moved c.of_keys.ensures
    (ap Touched.Keys (named_keys c.args.world.now c.args.iface c.args.message _ _ _ c.in_ok-changes.field-0.moved
    lasts joins prunes moves))
    (named_covered c.args.world.now c.args.iface c.args.message _ _ _ c.in_ok-changes.field-0.moved
    c.requires.settled.ordered lasts joins prunes moves)
