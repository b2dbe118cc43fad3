use Rattle.std.{proofs.Common.{subst, sym}}
use Rattle.pim_mfc.{specs.Laws.ShowsRows}
use Rattle.pim_model.{specs.Cache.cached}
use Rattle.pim_fanout.{specs.{Named.keys_of, Refreshing.{CacheValue, Refreshes}}, proofs.AllRows.{all_shown, none_counted}}
use Rattle.pim_fanout.proofs.cache.Cache.of.Goals as goal

pub returns-clause-shown : goal.returns-clause-shown
returns-clause-shown c =
    subst (λ (k : CacheValue). ShowsRows k.mfc.rows (cached c.args.world.now)) (sym c.reset.ensures)
    (all_shown c.args.world.now (keys_of c.in_ok-names.names.items) c.refresh_rows.new.self.mfc.rows
    (rw (rw c.store.ensures at c.source_rows.ensures) at c.in_ok-names.ensures)
    (subst (λ (k : CacheValue). Refreshes (keys_of c.in_ok-names.names.items) c.args.world.now k.mfc.rows
    c.refresh_rows.new.self.mfc.rows) c.new-cache.ensures (rw c.as_slice.ensures.value at c.in_ok-refresh_rows.ensures.shown)))

pub returns-clause-uncounted : goal.returns-clause-uncounted
returns-clause-uncounted c = none_counted c.refresh_rows.new.self c.reset.new.self c.reset.ensures
