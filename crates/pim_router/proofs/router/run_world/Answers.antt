use Rattle.std.{proofs.Common.{◌++◌, ◌∷◌, [], ap, ◌∙◌}}
use Rattle.pim_fanout.{specs.Refreshing.touches}
use Rattle.pim_event.{proofs.{Costs.{counts_all, counts_next, counts_none}, Disturbing.{disturbs_all, disturbs_next}, Staying.{stays_all, stays_next}, Listing.{lists_all, lists_next}}}
use Rattle.pim_router.{specs.Stepping.disturbance, proofs.Runs.{runs_begin, runs_end, runs_next}}
use Rattle.pim_router.proofs.router.run_world.Goals as goal

pub loop-event-init : goal.loop-event-init
loop-event-init c = (
  runs_begin c.args.core.now.world c.args.events.now c.new-outcomes.result.items c.new-outcomes.ensures.items
      c.requires.stands.rest,
  c.requires.stands,
  counts_none c.args.core.now.world c.args.events.now c.args.probes.now.meter (touches c.args.core.now.cache),
  tt,
  tt,
  tt,
  c.requires.once,
)

pub take_next-requires-clause-stands : goal.take_next-requires-clause-stands
take_next-requires-clause-stands c = c.loop-event.invariant.1

pub loop-event-preserved : goal.loop-event-preserved
loop-event-preserved c =
    let first = c.args.core.now.world in
    let events = c.args.events.now in
    let i = c.loop-event.event-index in
    let before = c.loop-event.core.world in
    let after = c.take_next.new.core in
    let invariant = c.loop-event.invariant in
    let stepped = rw c.of.ensures at c.in_ok-take_next.ensures.steps in (
      runs_next first events i before after.world c.loop-event.outcomes.items c.push.new.self.items c.event-item.result
          c.loop-event-test.true c.event-item.is c.in_ok-take_next.ensures.stands.rest stepped.state
          (c.in_ok-push.ensures.items ∙ ap (λ o. c.loop-event.outcomes.items ++ o ∷ []) stepped.outcome) invariant.0,
      c.in_ok-take_next.ensures.stands,
      counts_next first events i before after.world c.event-item.result c.loop-event.probes.meter
          (touches c.loop-event.core.cache) c.take_next.new.meter (touches after.cache) c.loop-event-test.true
          c.event-item.is stepped.state stepped.cache.cheap invariant.2,
      lists_next first events i before c.event-item.result after.cache.changed c.loop-event-test.true c.event-item.is
          invariant.2.state_is stepped.cache.listed,
      stays_next first events i before after.world c.event-item.result (disturbance after) c.loop-event-test.true
          c.event-item.is invariant.2.state_is stepped.state c.in_ok-take_next.ensures.stays,
      disturbs_next first events i before c.event-item.result (disturbance after) c.loop-event-test.true c.event-item.is
          invariant.2.state_is (λ j. record { touched = stepped.cache.disturbs j; replaced = stepped.replaced j }),
      stepped.cache.once,
    )

pub returns-clause-runs : goal.returns-clause-runs
returns-clause-runs c =
    let first = c.args.core.now.world in
    let events = c.args.events.now in
    let i = c.loop-event.event-index in
    let last = c.loop-event.core in
    let invariant = c.loop-event.invariant in
    let ends = runs_end first events i last.world c.loop-event.outcomes.items c.loop-event-test.false invariant.0 in
    record {
      outcomes = ends.0;
      state = ends.1;
      stands = invariant.1;
      cheap = counts_all first events i last.world c.loop-event.probes.meter (touches last.cache) c.loop-event-test.false
          invariant.2;
      listed = lists_all first events i last.cache.changed c.loop-event-test.false invariant.3;
      once = invariant.6;
      disturbed = disturbs_all first events i (disturbance last) c.loop-event-test.false invariant.5;
      stays = stays_all first events i (disturbance last) c.loop-event-test.false invariant.4;
      fault = tt;
    }
