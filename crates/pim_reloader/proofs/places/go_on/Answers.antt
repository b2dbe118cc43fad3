use Rattle.std.{proofs.Common.{ap, subst, sym, ◌∙◌, ℕ}}
use Rattle.pim_fanout.{specs.Refreshing.CacheValue}
use Rattle.pim_mfc.{specs.Laws.ShowsRows}
use Rattle.pim_model.{specs.{Cache.cached, Step.{run, state_after}}}
use Rattle.law_states.{specs.{Reloading.sent_by, Reload.config_of}}
use Rattle.pim_state.{specs.Turns.Taking}
use Rattle.pim_reloader.{proofs.{GoingOn.{gone_below, gone_sent, gone_state}, Removing.downs}}
use Rattle.pim_reloader.proofs.places.go_on.Goals as goal

pub replace-requires-clause-rest : goal.replace-requires-clause-rest
replace-requires-clause-rest c = c.in_ok-sent.ensures.rests.rest

pub replace-requires-clause-shown : goal.replace-requires-clause-shown
replace-requires-clause-shown c =
    subst (λ (k : CacheValue). ShowsRows k.mfc.rows (cached c.take_all_down.new.core.world)) (sym c.reset.ensures)
    c.in_ok-sent.ensures.rests.shown

pub replace-requires-clause-begun : goal.replace-requires-clause-begun
replace-requires-clause-begun c = ap (λ (t : Taking). t.messages) c.new-turn.ensures

pub replace-requires-clause-below : goal.replace-requires-clause-below
replace-requires-clause-below c =
    gone_below c.args.core.now.world c.take_all_down.new.core.world c.args.kept _ c.args.draw c.proof_kinds.ensures
    c.proof_kinds-2.ensures c.requires.few c.requires.within
    (c.in_ok-sent.ensures.state
    ∙ ap (λ (n : ℕ). state_after c.args.core.now.world (downs c.args.draw c.args.kept n)) c.count_of-count.ensures)

pub returns : goal.returns
unfolding config_of
returns c =
    let s = c.args.core.now.world in
    let m = c.take_all_down.new.core.world in
    let n = c.replace.new.core.world in
    let d = config_of c.args.next in
    let draws = ap (λ (t : Taking). t.draw) c.new-turn.ensures in
    let left = c.in_ok-sent.ensures.state
    ∙ ap (λ (n : ℕ). state_after s (downs c.args.draw c.args.kept n)) c.count_of-count.ensures in
    record {
      state = gone_state s m n c.args.kept d c.args.draw c.new-turn.result.draw left draws
          c.in_ok-later.ensures.state;
      sent = gone_sent s m n c.args.kept d c.args.draw c.new-turn.result.draw left draws
          c.in_ok-sent.sent.items c.say_goodbye.new.sent.items c.in_ok-later.later.items c.append.new.self.items
          (c.in_ok-sent.ensures.sent
          ∙ ap (λ (n : ℕ). sent_by (run s (downs c.args.draw c.args.kept n))) c.count_of-count.ensures)
          c.in_ok-say_goodbye.ensures c.in_ok-later.ensures.sent c.in_ok-append.ensures.items;
      shown = c.in_ok-later.ensures.shown;
      fault = tt;
    }
