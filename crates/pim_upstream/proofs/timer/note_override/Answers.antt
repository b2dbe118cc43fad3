use Rattle.std.{proofs.Common.{ap, sym, ◌∙◌}}
use Rattle.pim_types.{specs.Keys.rpt_key}
use Rattle.pim_model.{specs.Upstream.with_override_timer}
use Rattle.pim_upstream.{specs.{Timers.{after_move, after_moves}, declared.timer.TimerMove.TimerMove}, proofs.Moves.after_one_more}
use Rattle.pim_rpt.{specs.{Changes.change_of, declared.change.Change.Change}}
use Rattle.pim_upstream.proofs.timer.note_override.Goals as goal

pub returns-in-Keep : goal.returns-in-Keep
unfolding with_override_timer change_of
returns-in-Keep c = λ s.
    sym (ap (λ (change : Change). with_override_timer (after_moves s c.args.moves.now.items)
    (rpt_key 0 c.args.name.group.bits c.args.name.source.bits) (change_of change)) c.in-Keep.is)

pub returns-in_ok-push-in_default : goal.returns-in_ok-push-in_default
unfolding after_move
returns-in_ok-push-in_default c = λ s.
    ap (after_moves s) c.in_ok-push-in_default.ensures.items
    ∙ after_one_more c.args.moves.now.items (TimerMove.Override c.args.name c.args.change) s
