use Rattle.std.{proofs.Common.{List, ap, length, refl, subst, sym, ℕ, ◌*◌, ◌+◌, ◌≡◌, ◌≤◌, ◌∙◌}, specs.List.Sorted.IsStrictlySortedBy}
use Rattle.pim_types.{specs.{Keys.key_cmp, declared.fact.Key.Key}}
use Rattle.pim_fanout.{specs.Refreshing.{CacheValue, touches}}
use Rattle.pim_mfc.{specs.Laws.ShowsRows}
use Rattle.pim_model.{specs.{Cache.cached, Judging.judged, Step.{Answered, outcome_of, step, taken_unless_full}}}
use Rattle.law_events.{specs.Named.event_named}
use Rattle.pim_event.{proofs.{Costs.{is_cheap, touched_so}, Disturbing.{room_alike, turn_disturbs}, Listing.{listed_alone, named_in_turn}, Replacing.turn_replaces, Staying.{offers_with_room, stays_the_same}, Configured.configured, Taking.in_turn}, specs.{Caching.CacheFollows, Listing.ListsSame}}
use Rattle.pim_state.{specs.Turns.Taking}
use Rattle.pim_event.proofs.event.act_in_own_turn.Goals as goal

pub act_on_accepted-requires-clause-begun : goal.act_on_accepted-requires-clause-begun
act_on_accepted-requires-clause-begun c = record {
  rest = c.requires.begun.rest;
  shown = c.requires.begun.shown;
  begun = ap (λ (t : Taking). t.messages) c.new-turn.ensures;
  unlisted = c.requires.begun.unlisted;
  configured = configured c.args.core.now.world c.args.event.now.kind (judged c.args.core.now.world c.args.event.now.kind)
      c.args.accepted refl c.requires.heard;
}

pub returns : goal.returns
unfolding touches
returns c =
    let same : step c.args.core.now.world c.args.event.now
    ≡ taken_unless_full c.args.core.now.world c.new-turn.result.draw c.args.accepted =
    in_turn c.args.core.now.world c.args.event.now c.args.accepted _ c.requires.heard
    (ap (λ (t : Taking). t.draw) c.new-turn.ensures ∙ c.draw.ensures) in
    record {
      outcome = c.in_ok-outcome.ensures.outcome ∙ ap outcome_of (sym same);
      state = c.in_ok-outcome.ensures.state ∙ ap (λ (x : Answered). x.state) (sym same);
      cache = λ plain other.
          let s = c.args.core.now.world in
          let names = event_named s c.args.event.now in
          let before = c.args.core.now.cache in
          let k = c.act_on_accepted.new.core.cache in
          let follows : CacheFollows s c.act_on_accepted.new.core.world names before k =
          subst (λ (ks : List Key). CacheFollows s c.act_on_accepted.new.core.world ks before k)
          (named_in_turn s c.args.event.now c.args.accepted _ c.requires.heard
          (ap (λ (t : Taking). t.draw) c.new-turn.ensures ∙ c.draw.ensures)) c.in_ok-outcome.ensures.cache in
          let after = c.disturb_all_if.ensures in
          let same : touches c.disturb_all_if.new.self ≡ touches k = ap (λ (x : CacheValue). touches x) after in
          record {
            shown = subst (λ (x : CacheValue). ShowsRows x.mfc.rows (cached c.act_on_accepted.new.core.world)) (sym after) follows.shown;
            cheap = is_cheap s c.requires.begun.rest c.args.event.now c.act_on_accepted.new.meter _ plain
                (touched_so _ (touches before) s c.args.event.now
                (subst (λ (n : ℕ). n ≤ touches before + 2 * length names) (sym same) follows.few) c.requires.begun.uncounted);
            listed = subst (λ (x : CacheValue). ListsSame x.changed names) (sym after)
                (listed_alone before.changed names k.changed c.requires.begun.unlisted follows.listed);
            once = subst (λ (x : CacheValue). IsStrictlySortedBy key_cmp x.changed) (sym after) c.in_ok-outcome.ensures.once;
            disturbs = turn_disturbs s c.act_on_accepted.new.core.world c.args.event.now c.args.accepted _ before.disturbed
                k.disturbed c.disturb_all_if.new.self.disturbed c.passes_limit-was_full.result c.passes_limit-is_full.result
                c.has_room_changed-has_changed.result c.requires.heard
                (ap (λ (t : Taking). t.draw) c.new-turn.ensures ∙ c.draw.ensures) c.requires.begun.undisturbed
                c.in_ok-outcome.ensures.disturbed c.in_ok-outcome.ensures.state c.passes_limit-was_full.ensures
                c.passes_limit-is_full.ensures c.has_room_changed-has_changed.ensures (ap (λ (x : CacheValue). x.disturbed) after) other;
            stays = offers_with_room s c.act_on_accepted.new.core.world k.disturbed
                c.disturb_all_if.new.self.disturbed c.has_room_changed-has_changed.result
                (ap (λ (x : CacheValue). x.disturbed) after)
                (λ same. sym c.passes_limit-was_full.ensures ∙ (room_alike _ _ _ c.has_room_changed-has_changed.ensures same ∙ c.passes_limit-is_full.ensures))
                (follows.stays s (stays_the_same s s before.disturbed refl));
          };
      replaced = turn_replaces c.args.core.now.world c.act_on_accepted.new.core.world c.args.event.now c.args.accepted _ c.args.core.now.replaced
          c.act_on_accepted.new.core.replaced c.clear_if.new.self c.passes_limit-was_full.result c.passes_limit-is_full.result
          c.has_room_changed-has_changed.result c.requires.heard
          (ap (λ (t : Taking). t.draw) c.new-turn.ensures ∙ c.draw.ensures) c.requires.begun.unreplaced
          c.in_ok-outcome.ensures.replaced c.in_ok-outcome.ensures.state c.passes_limit-was_full.ensures
          c.passes_limit-is_full.ensures c.has_room_changed-has_changed.ensures c.clear_if.ensures;
      fault = tt;
    }
