use Rattle.std.{proofs.{Common.{List, ap, sym, ◌≡◌, ◌∙◌}, lemmas.Result.on_ok_weaker}}
use Rattle.pim_ip.{specs.declared.addr.Addr.Addr}
use Rattle.pim_types.{specs.Keys.star_key}
use Rattle.pim_model.{specs.{Messages.Message, State.State, Upstream.{Told, with_join_timer}}}
use Rattle.pim_state.{specs.Turns.{Taking, saying}, proofs.Said.said_both}
use Rattle.pim_upstream.{specs.{Timers.after_moves, Told.{source_step, star_changed}, declared.timer.TimerMove.TimerMove}, proofs.Alone.{both, told_alone}}
use Rattle.pim_upstream.proofs.turns.changed_alone.Goals as goal

pub returns-clause-state : goal.returns-clause-state
unfolding after_moves
returns-clause-state c =
    let a = c.args.world.now in
    let w = c.args.turn.now.draw in
    let x = c.args.group.now in
    let o = c.args.opened in
    let g = c.args.sight.now.star.group.bits in
    let draw : c.send_for_star.new.turn.draw ≡ w = ap (λ (t : Taking). t.draw) c.in_ok-send_for_star.ensures.messages in
    let star : Told = star_changed a w g x.star in
    let moved : after_moves a c.send_for_star.new.moves.items ≡ with_join_timer a (star_key 0 g) star.timer =
    c.in_ok-send_for_star.ensures.timers a
    ∙ ap (λ (ms : List TimerMove). with_join_timer (after_moves a ms) (star_key 0 g) star.timer) c.new-moves.ensures.items in
    on_ok_weaker c.move_timers.result
    (λ e. e
    ∙ ap (λ (ms : List TimerMove). after_moves a ms) c.as_slice.ensures.value
    ∙ c.in_ok-send_for_source.ensures.timers a
    ∙ ap (λ d. (source_step a d g (after_moves a c.send_for_star.new.moves.items) o).0) draw
    ∙ ap (λ (u : State). (source_step a w g u o).0) moved
    ∙ ap (λ (z : Addr). (both a w z.bits x.star o a).0) c.requires.group
    ∙ sym (ap (λ (p : State × List Message). p.0) (told_alone a w x o c.requires.alone)))
    c.move_timers.ensures

pub returns-clause-messages : goal.returns-clause-messages
unfolding after_moves
returns-clause-messages c =
    let a = c.args.world.now in
    let t = c.args.turn.now in
    let w = c.args.turn.now.draw in
    let x = c.args.group.now in
    let o = c.args.opened in
    let g = c.args.sight.now.star.group.bits in
    let draw : c.send_for_star.new.turn.draw ≡ w = ap (λ (t : Taking). t.draw) c.in_ok-send_for_star.ensures.messages in
    let star : Told = star_changed a w g x.star in
    let first : State = with_join_timer a (star_key 0 g) star.timer in
    let moved : after_moves a c.send_for_star.new.moves.items ≡ first =
    c.in_ok-send_for_star.ensures.timers a
    ∙ ap (λ (ms : List TimerMove). with_join_timer (after_moves a ms) (star_key 0 g) star.timer) c.new-moves.ensures.items in
    on_ok_weaker c.move_timers.result
    (λ e. c.in_ok-send_for_source.ensures.messages a
    ∙ ap (λ d. saying c.send_for_star.new.turn (source_step a d g (after_moves a c.send_for_star.new.moves.items) o).1) draw
    ∙ ap (λ (u : State). saying c.send_for_star.new.turn (source_step a w g u o).1) moved
    ∙ ap (λ (z : Taking). saying z (source_step a w g first o).1) c.in_ok-send_for_star.ensures.messages
    ∙ said_both t star.messages (source_step a w g first o).1
    ∙ ap (λ (z : Addr). saying t (both a w z.bits x.star o a).1) c.requires.group
    ∙ sym (ap (λ (p : State × List Message). saying t p.1) (told_alone a w x o c.requires.alone)))
    c.move_timers.ensures
