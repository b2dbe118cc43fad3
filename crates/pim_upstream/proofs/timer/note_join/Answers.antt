use Rattle.std.{proofs.Common.{ap, sym, ◌∙◌}}
use Rattle.pim_model.{specs.Upstream.with_join_timer}
use Rattle.pim_upstream.{specs.{Timers.{after_move, after_moves, join_key}, declared.timer.TimerMove.TimerMove}, proofs.Moves.after_one_more}
use Rattle.pim_rpt.{specs.{Changes.change_of, declared.change.Change.Change}}
use Rattle.pim_upstream.proofs.timer.note_join.Goals as goal

pub returns-in-Keep : goal.returns-in-Keep
unfolding with_join_timer change_of
returns-in-Keep c = λ s.
    sym (ap (λ (change : Change). with_join_timer (after_moves s c.args.moves.now.items)
    (join_key c.args.group c.args.source) (change_of change)) c.in-Keep.is)

pub returns-in_ok-push-in_default : goal.returns-in_ok-push-in_default
unfolding after_move
returns-in_ok-push-in_default c = λ s.
    ap (after_moves s) c.in_ok-push-in_default.ensures.items
    ∙ after_one_more c.args.moves.now.items (TimerMove.Join c.args.group c.args.source c.args.change) s
