use Rattle.std.{proofs.Common.{List, ◌++◌, ap, subst, sym, ◌∙◌}}
use Rattle.pim_types.{specs.declared.name.SourceGroup.SourceGroup}
use Rattle.pim_fanout.{specs.{Named.keys_of, Refreshing.CacheValue}}
use Rattle.pim_mfc.{specs.Laws.ShowsRows}
use Rattle.pim_model.{specs.Cache.cached}
use Rattle.law_states.{specs.Reload.config_of}
use Rattle.pim_state.{specs.Turns.Taking}
use Rattle.pim_reloader.{specs.Listing.sources_in, proofs.{Renewed.lists_facts, Together.{whole_sent, whole_state}}}
use Rattle.pim_reloader.proofs.whole.reload.Goals as goal

pub replace-requires-clause-shown : goal.replace-requires-clause-shown
replace-requires-clause-shown c =
    subst (λ (k : CacheValue). ShowsRows k.mfc.rows (cached c.remove.new.core.world)) (sym c.reset.ensures)
    c.in_ok-sent.ensures.removes.rests.shown

pub replace-requires-clause-begun : goal.replace-requires-clause-begun
replace-requires-clause-begun c = ap (λ (t : Taking). t.messages) c.new-turn.ensures

pub returns : goal.returns
unfolding config_of
returns c =
    let draws = ap (λ (t : Taking). t.draw) c.new-turn.ensures in
    let removed = c.in_ok-sent.ensures.removes in
    record {
      state = whole_state c.args.core.now.world c.remove.new.core.world c.replace.new.core.world (config_of c.args.next) c.args.draw
          c.new-turn.result.draw removed.state draws c.in_ok-later.ensures.state;
      sent = whole_sent c.args.core.now.world c.remove.new.core.world c.replace.new.core.world (config_of c.args.next) c.args.draw
          c.new-turn.result.draw removed.state draws c.in_ok-sent.sent.items c.say_goodbye.new.sent.items
          c.in_ok-later.later.items c.append.new.self.items removed.sent c.in_ok-say_goodbye.ensures c.in_ok-later.ensures.sent c.in_ok-append.ensures.items;
      shown = c.in_ok-later.ensures.shown;
      listed = lists_facts c.args.core.now.world c.remove.new.core.world c.replace.new.core.world
          (keys_of c.add_sources.new.names.items) c.reset.new.self.changed c.replace.new.core.cache.changed
          (c.in_ok-add_sources.ensures
          ∙ ap (λ (ns : List SourceGroup). keys_of ns ++ sources_in c.args.core.now.world) c.new-names.ensures.items)
          c.in_ok-later.ensures.listed;
      once = c.in_ok-later.ensures.once;
      disturbed = c.in_ok-later.ensures.disturbed;
      replaced = c.in_ok-later.ensures.kept ∙ c.clear.ensures;
      fault = tt;
    }
