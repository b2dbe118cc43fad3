use Rattle.std.{proofs.{Common.{◌≡◌, ◌+◌, ◌∷◌, List, ap, drop, refl, subst, sym, ◌∙◌}, lemmas.List.drop_more}}
use Rattle.pim_ip.{specs.declared.addr.Addr.Addr}
use Rattle.pim_macros.{specs.declared.sight.StarSight.StarSight}
use Rattle.pim_model.{specs.{Messages.Message, State.State}}
use Rattle.pim_views.{specs.{After.{AreAfter, IsSourceAfter}, declared.after.SourceAfter.SourceAfter}}
use Rattle.pim_state.{specs.Turns.saying}
use Rattle.pim_upstream.{specs.{Timers.after_moves, Told.source_step}, proofs.{Alone.each_opened, Progress.{stands_last, stands_next}}}
use Rattle.pim_upstream.proofs.turns.send_for_sources.Goals as goal

pub loop-after-init : goal.loop-after-init
loop-after-init c = record {
  stands = record { state = λ s. refl; taking = λ s. refl; draw = refl };
  left = c.requires;
}

pub loop-after-preserved : goal.loop-after-preserved
loop-after-preserved c =
    let a = c.args.world.now in
    let star = c.args.star.now in
    let sources = c.args.sources.now in
    let x = c.after-item.result in
    let rest = drop (c.loop-after.after-index + 1) sources in
    let is = drop_more sources c.loop-after.after-index x c.loop-after-test.true
    ∙ ap (λ y. y ∷ rest) (sym c.after-item.is) in
    let left = subst (λ (xs : List SourceAfter). AreAfter a star xs) is c.loop-after.invariant.left in
    let one : IsSourceAfter a star x = left.0 in
    let here : x.sight.star.group ≡ star.group = ap (λ (t : StarSight). t.group) one.star in
    record {
      stands =
          stands_next (λ w (s : State) (y : SourceAfter). source_step a w star.group.bits s y.opened)
          c.args.turn.now sources
          (λ s. after_moves s c.args.moves.now.items) c.loop-after.turn c.send_for_source.new.turn
          (λ s. after_moves s c.loop-after.moves.items)
          (λ s. after_moves s c.send_for_source.new.moves.items) sources
          c.loop-after.after-index x x c.loop-after-test.true c.after-item.is a
          (λ s. c.in_ok-send_for_source.ensures.timers s
          ∙ ap (λ (g : Addr). (source_step a c.loop-after.turn.draw g.bits
          (after_moves s c.loop-after.moves.items) x.opened).0)
          here)
          (λ s. c.in_ok-send_for_source.ensures.messages s
          ∙ ap (λ (g : Addr). saying c.loop-after.turn
          (source_step a c.loop-after.turn.draw g.bits (after_moves s c.loop-after.moves.items) x.opened).1) here)
          c.loop-after.invariant.stands;
      left = left.1;
    }

pub returns-clause-timers : goal.returns-clause-timers
returns-clause-timers c s =
    let a = c.args.world.now in
    let w = c.args.turn.now.draw in
    let g = c.args.star.now.group.bits in
    (stands_last (λ w (t : State) (y : SourceAfter). source_step a w g t y.opened) c.args.turn.now c.args.sources.now
    (λ t. after_moves t c.args.moves.now.items) c.loop-after.turn (λ t. after_moves t c.loop-after.moves.items)
    c.args.sources.now c.loop-after.after-index c.loop-after-test.false c.loop-after.invariant.stands).0 s
    ∙ ap (λ (p : State × List Message). p.0)
    (each_opened (source_step a w g) c.args.sources.now (after_moves s c.args.moves.now.items))

pub returns-clause-messages : goal.returns-clause-messages
returns-clause-messages c s =
    let a = c.args.world.now in
    let w = c.args.turn.now.draw in
    let g = c.args.star.now.group.bits in
    (stands_last (λ w (t : State) (y : SourceAfter). source_step a w g t y.opened) c.args.turn.now c.args.sources.now
    (λ t. after_moves t c.args.moves.now.items) c.loop-after.turn (λ t. after_moves t c.loop-after.moves.items)
    c.args.sources.now c.loop-after.after-index c.loop-after-test.false c.loop-after.invariant.stands).1 s
    ∙ ap (λ (p : State × List Message). saying c.args.turn.now p.1)
    (each_opened (source_step a w g) c.args.sources.now (after_moves s c.args.moves.now.items))
