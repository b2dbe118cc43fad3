use Rattle.std.{proofs.Common.{List, ◌++◌, ap, subst, sym, ◌∙◌}}
use Rattle.pim_types.{specs.declared.fact.Key.Key}
use Rattle.law_events.{specs.Kept.is_listed}
use Rattle.law_states.{specs.{Placing.moved, Reload.config_of}}
use Rattle.pim_fanout.{specs.{Named.keys_of, Refreshing.CacheValue}}
use Rattle.pim_mfc.{specs.Laws.ShowsRows}
use Rattle.pim_model.{specs.Cache.cached}
use Rattle.pim_state.{specs.Turns.Taking}
use Rattle.pim_reloader.{specs.Listing.sources_in, proofs.Renewed.{joined_all, renewed_are_shown}}
use Rattle.pim_reloader.proofs.moved.move_facts.Goals as goal

pub move_in_turn-requires-clause-begun : goal.move_in_turn-requires-clause-begun
move_in_turn-requires-clause-begun c = ap (λ (t : Taking). t.messages) c.new-turn.ensures

pub returns-clause-leads : goal.returns-clause-leads
returns-clause-leads c =
    let draws = ap (λ (t : Taking). t.draw) c.new-turn.ensures in
    let names = ap keys_of c.from_vec.ensures
    ∙ (c.in_ok-add_sources-2.ensures
    ∙ ap (λ (ks : List Key). ks ++ sources_in c.move_in_turn.new.core.world) c.in_ok-add_sources.ensures) in
    record {
      state = c.in_ok-sent.ensures.state
          ∙ ap (λ w. (moved c.args.core.now.world c.args.places.now (config_of c.args.next.now) c.args.apart.now w).0) draws;
      sent = c.in_ok-sent.ensures.sent
          ∙ ap (λ w. (moved c.args.core.now.world c.args.places.now (config_of c.args.next.now) c.args.apart.now w).1) draws;
      shown = subst (λ (k : CacheValue). ShowsRows k.mfc.rows (cached c.move_in_turn.new.core.world)) (sym c.list_once.ensures.kept)
          (renewed_are_shown c.args.core.now.world c.move_in_turn.new.core.world (keys_of c.from_vec.result)
          (keys_of c.args.names.items) names _ c.refresh.new.self.mfc.rows
          (subst (λ (k : CacheValue). ShowsRows k.mfc.rows (cached c.args.core.now.world))
          (sym (c.in_ok-sent.ensures.kept.0 ∙ c.reset.ensures)) c.requires.shown) c.in_ok-refresh.ensures.shown);
      fault = tt;
    }

pub returns-clause-listed : goal.returns-clause-listed
returns-clause-listed c = λ g src.
    c.list_once.ensures.same g src
    ∙ ap (λ (ks : List Key). is_listed ks g src)
    (c.in_ok-refresh.ensures.listed
    ∙ (λ j. ap (λ (k : CacheValue). k.changed) (c.in_ok-sent.ensures.kept.0 ∙ c.reset.ensures) j
    ++ (ap keys_of c.from_vec.ensures
    ∙ (c.in_ok-add_sources-2.ensures
    ∙ ap (λ (ks : List Key). ks ++ sources_in c.move_in_turn.new.core.world) c.in_ok-add_sources.ensures)) j))

pub returns-clause-disturbed : goal.returns-clause-disturbed
returns-clause-disturbed c =
    ap (λ (k : CacheValue). k.disturbed) c.list_once.ensures.kept
    ∙ (c.in_ok-refresh.ensures.disturbed ∙ joined_all _)
