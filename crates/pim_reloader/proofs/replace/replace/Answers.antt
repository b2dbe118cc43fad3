use Rattle.std.{proofs.Common.{◌++◌, List, ap, subst, sym, ◌∙◌}}
use Rattle.pim_types.{specs.declared.fact.Key.Key}
use Rattle.law_events.{specs.Kept.is_listed}
use Rattle.pim_fanout.{specs.{Named.keys_of, Refreshing.CacheValue}}
use Rattle.pim_mfc.{specs.Laws.ShowsRows}
use Rattle.pim_model.{specs.Cache.cached}
use Rattle.pim_reloader.{specs.Listing.sources_in, proofs.Renewed.{joined_all, renewed_are_shown}}
use Rattle.pim_reloader.proofs.replace.replace.Goals as goal

pub returns-clause-shown : goal.returns-clause-shown
returns-clause-shown c =
    subst (λ (k : CacheValue). ShowsRows k.mfc.rows (cached c.follow.new.world)) (sym c.list_once.ensures.kept)
    (renewed_are_shown c.args.core.now.world c.follow.new.world (keys_of c.from_vec.result) (keys_of c.args.names.items)
    (ap keys_of c.from_vec.ensures
    ∙ (c.in_ok-add_sources-2.ensures
    ∙ ap (λ (ks : List Key). ks ++ sources_in c.follow.new.world) c.in_ok-add_sources.ensures))
    c.args.core.now.cache.mfc.rows c.refresh.new.self.mfc.rows c.requires.shown c.in_ok-refresh.ensures.shown)

pub returns-clause-listed : goal.returns-clause-listed
returns-clause-listed c = λ g src.
    c.list_once.ensures.same g src
    ∙ ap (λ (ks : List Key). is_listed ks g src)
    (c.in_ok-refresh.ensures.listed
    ∙ ap (λ (ks : List Key). c.args.core.now.cache.changed ++ ks)
    (ap keys_of c.from_vec.ensures
    ∙ (c.in_ok-add_sources-2.ensures
    ∙ ap (λ (ks : List Key). ks ++ sources_in c.follow.new.world) c.in_ok-add_sources.ensures)))

pub returns-clause-disturbed : goal.returns-clause-disturbed
returns-clause-disturbed c =
    ap (λ (k : CacheValue). k.disturbed) c.list_once.ensures.kept
    ∙ (c.in_ok-refresh.ensures.disturbed ∙ joined_all c.args.core.now.cache.disturbed)
