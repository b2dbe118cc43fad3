use Rattle.std.{proofs.Common.{ap, subst, ◌≡◌, ◌∙◌}, specs.Prelude.OnOk}
use Rattle.pim_model.{specs.{State.State, Tables.hop_at}}
use Rattle.pim_state.{specs.Turns.Taking}
use Rattle.pim_upstream.{proofs.HeardMessages.gathered}
use Rattle.pim_upstream.proofs.overheard.seen.Goals as goal

pub returns-clause-state : goal.returns-clause-state
returns-clause-state c =
    let drawn = ap (λ (t : Taking). t.draw) c.turn.view_is in
    subst (λ (s : State). OnOk c.move_timers.result (c.move_timers.new.world ≡ s))
    (gathered c.args.world.now c.args.turn.now.draw c.args.iface.number c.args.message.now drawn
    (ap (λ a. hop_at c.args.iface.number a) c.upstream.ensures) c.holdtime.ensures
    c.suppressed_end-suppressed.ensures c.overriding_end-overriding.ensures
    (c.deref.ensures.value ∙ c.requires.joined) (c.deref-2.ensures.value ∙ c.requires.joined)
    (c.deref-3.ensures.value ∙ c.requires.pruned) c.new-moves.ensures.items
    c.in_ok-hear_joins.ensures c.in_ok-hear_joins-2.ensures c.in_ok-hear_prunes.ensures.heard
    c.deref-4.ensures.value)
    c.move_timers.ensures
