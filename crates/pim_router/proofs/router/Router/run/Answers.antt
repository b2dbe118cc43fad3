use Rattle.pim_fanout.{specs.Refreshing.touches}
use Rattle.pim_router.{proofs.Runs.{is_asked, is_bounded, is_told, is_within}}
use Rattle.pim_router.proofs.router.Router.run.Goals as goal

pub returns-clause-asked : goal.returns-clause-asked
returns-clause-asked c =
    is_asked c.args.self.now c.self.inside.failed (record { state = c.self.inside.core.world; copies = c.self.inside.copies })
    c.self.inside.probes.meter (touches c.self.inside.core.cache) c.self.inside.core.cache.changed (record { touched = c.self.inside.core.cache.disturbed; replaced = c.self.inside.core.replaced })
    c.args.events.now c.in_ok-outcomes.outcomes.items c.self.view_is c.if-self.false c.in_ok-outcomes.ensures.runs.outcomes

pub returns-clause-bounded : goal.returns-clause-bounded
returns-clause-bounded c =
    is_bounded c.args.self.now c.self.inside.failed (record { state = c.self.inside.core.world; copies = c.self.inside.copies })
    c.self.inside.probes.meter (touches c.self.inside.core.cache) c.self.inside.core.cache.changed (record { touched = c.self.inside.core.cache.disturbed; replaced = c.self.inside.core.replaced })
    c.args.events.now c.run_world.new.core.world c.self.view_is c.if-self.false c.in_ok-outcomes.ensures.runs.state

pub returns-clause-last : goal.returns-clause-last
returns-clause-last c =
    is_told c.args.self.now c.self.inside.failed (record { state = c.self.inside.core.world; copies = c.self.inside.copies })
    c.self.inside.probes.meter (touches c.self.inside.core.cache) c.self.inside.core.cache.changed (record { touched = c.self.inside.core.cache.disturbed; replaced = c.self.inside.core.replaced })
    c.args.events.now _ c.self.view_is c.if-self.false c.in_ok-outcomes.ensures.runs.cheap
    c.in_ok-outcomes.ensures.runs.listed c.in_ok-outcomes.ensures.runs.disturbed c.in_ok-outcomes.ensures.runs.stays

pub returns-clause-within : goal.returns-clause-within
returns-clause-within c =
    is_within c.args.self.now c.self.inside.failed (record { state = c.self.inside.core.world; copies = c.self.inside.copies })
    c.self.inside.probes.meter (touches c.self.inside.core.cache) c.self.inside.core.cache.changed (record { touched = c.self.inside.core.cache.disturbed; replaced = c.self.inside.core.replaced })
    c.args.events.now c.run_world.new.core.world c.self.view_is c.if-self.false c.in_ok-outcomes.ensures.runs.state
