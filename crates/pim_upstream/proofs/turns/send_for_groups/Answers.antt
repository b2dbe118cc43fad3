use Rattle.std.{proofs.{Common.{◌+◌, ◌∷◌, List, ap, drop, refl, subst, sym, ◌∙◌}, lemmas.List.drop_more}}
use Rattle.pim_model.{specs.{Messages.Message, State.State}}
use Rattle.pim_views.{specs.{After.{AreGathered, opening_in}, declared.after.GroupAfter.GroupAfter}}
use Rattle.pim_state.{specs.Turns.saying}
use Rattle.pim_upstream.{specs.{Timers.after_moves, Told.group_step}, proofs.{Alone.each_group, Progress.{stands_last, stands_next}}}
use Rattle.pim_upstream.proofs.turns.send_for_groups.Goals as goal

pub loop-after-init : goal.loop-after-init
loop-after-init c = record {
  stands = record { state = λ s. refl; taking = λ s. refl; draw = refl };
  left = c.requires;
}

pub loop-after-preserved : goal.loop-after-preserved
loop-after-preserved c =
    let a = c.args.world.now in
    let seen = c.args.seen.now in
    let x = c.after-item.result in
    let rest = drop (c.loop-after.after-index + 1) seen in
    let is = drop_more seen c.loop-after.after-index x c.loop-after-test.true ∙ ap (λ y. y ∷ rest) (sym c.after-item.is) in
    record {
      stands =
          stands_next (λ w (s : State) (y : GroupAfter). group_step a w s (opening_in y)) c.args.turn.now seen
          (λ s. after_moves s c.args.moves.now.items) c.loop-after.turn c.send_for_group.new.turn
          (λ s. after_moves s c.loop-after.moves.items) (λ s. after_moves s c.send_for_group.new.moves.items) seen
          c.loop-after.after-index x x c.loop-after-test.true c.after-item.is a
          c.in_ok-send_for_group.ensures.timers c.in_ok-send_for_group.ensures.messages c.loop-after.invariant.stands;
      left = (subst (λ (xs : List GroupAfter). AreGathered a xs) is c.loop-after.invariant.left).1;
    }

pub returns-clause-timers : goal.returns-clause-timers
returns-clause-timers c s =
    let a = c.args.world.now in
    let w = c.args.turn.now.draw in
    (stands_last (λ w (t : State) (y : GroupAfter). group_step a w t (opening_in y)) c.args.turn.now c.args.seen.now
    (λ t. after_moves t c.args.moves.now.items) c.loop-after.turn (λ t. after_moves t c.loop-after.moves.items)
    c.args.seen.now c.loop-after.after-index c.loop-after-test.false c.loop-after.invariant.stands).0 s
    ∙ ap (λ (p : State × List Message). p.0)
    (each_group (group_step a w) c.args.seen.now (after_moves s c.args.moves.now.items))

pub returns-clause-messages : goal.returns-clause-messages
returns-clause-messages c s =
    let a = c.args.world.now in
    let w = c.args.turn.now.draw in
    (stands_last (λ w (t : State) (y : GroupAfter). group_step a w t (opening_in y)) c.args.turn.now c.args.seen.now
    (λ t. after_moves t c.args.moves.now.items) c.loop-after.turn (λ t. after_moves t c.loop-after.moves.items)
    c.args.seen.now c.loop-after.after-index c.loop-after-test.false c.loop-after.invariant.stands).1 s
    ∙ ap (λ (p : State × List Message). saying c.args.turn.now p.1)
    (each_group (group_step a w) c.args.seen.now (after_moves s c.args.moves.now.items))
