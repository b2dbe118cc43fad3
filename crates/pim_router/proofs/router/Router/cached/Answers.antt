use Rattle.std.{proofs.Common.{ap, option_map, subst, sym, ◌∙◌}}
use Rattle.pim_fanout.{specs.Refreshing.touches}
use Rattle.pim_mfc.{specs.{Kept.{cache_row, kept_row}, Laws.TellsRow}, proofs.Shown.shown_are_told}
use Rattle.pim_model.{specs.Cache.cached}
use Rattle.pim_router.{proofs.Shown.tells_shown}
use Rattle.pim_router.proofs.router.Router.cached.Goals as goal

pub returns-clause-cached : goal.returns-clause-cached
returns-clause-cached c =
    tells_shown c.args.self.now c.self.inside.failed
    (record { state = c.self.inside.core.world; copies = c.self.inside.copies }) c.self.inside.probes.meter
    (touches c.self.inside.core.cache) c.self.inside.core.cache.changed (record { touched = c.self.inside.core.cache.disturbed; replaced = c.self.inside.core.replaced }) c.self.view_is c.if-self.false c.cached.result c.args.group.bits c.args.source.bits
    (subst (λ row. TellsRow row (cached c.self.inside.core.world c.args.group.bits c.args.source.bits))
    (sym (c.cached.ensures
    ∙ ap (λ k. option_map cache_row (kept_row k c.args.group.bits c.args.source.bits)) c.mfc.ensures))
    (shown_are_told c.self.inside.core.cache.mfc c.self.inside.core.world (c.self.invariant c.if-self.false).1 c.args.group.bits
    c.args.source.bits))
