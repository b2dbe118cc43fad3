use Rattle.std.{proofs.Common.{None, Some, sym, ◌∙◌}}
use Rattle.pim_model.{specs.Timers.next_ending}
use Rattle.pim_fanout.{specs.Refreshing.touches}
use Rattle.pim_router.{proofs.Shown.{moment_told, no_moment, shown_moment}}
use Rattle.pim_router.proofs.router.Router.next_moment.Goals as goal

pub returns-in-Some : goal.returns-in-Some
returns-in-Some c =
    shown_moment c.args.self.now c.self.inside.failed
    (record { state = c.self.inside.core.world; copies = c.self.inside.copies }) c.self.inside.probes.meter
    (touches c.self.inside.core.cache) c.self.inside.core.cache.changed (record { touched = c.self.inside.core.cache.disturbed; replaced = c.self.inside.core.replaced }) c.self.view_is c.if-self.false
    (Some c.in-Some.due.0)
    (moment_told (next_ending c.self.inside.core.world) c.in-Some.due (sym c.in-Some.is ∙ c.next.ensures))

pub returns-in-None : goal.returns-in-None
returns-in-None c =
    shown_moment c.args.self.now c.self.inside.failed
    (record { state = c.self.inside.core.world; copies = c.self.inside.copies }) c.self.inside.probes.meter
    (touches c.self.inside.core.cache) c.self.inside.core.cache.changed (record { touched = c.self.inside.core.cache.disturbed; replaced = c.self.inside.core.replaced }) c.self.view_is c.if-self.false None
    (no_moment (next_ending c.self.inside.core.world) (sym c.in-None.is ∙ c.next.ensures))
