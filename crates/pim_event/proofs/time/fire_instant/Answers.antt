use Rattle.std.{proofs.Common.{◌≤◌, ◌++◌, ap, arith, refl, sym, ◌∙◌}}
use Rattle.pim_fanout.{specs.Refreshing.touches}
use Rattle.law_settled.{proofs.{FiringLaws.next_is_due, TimerLaws.shown_from}}
use Rattle.law_events.{specs.Named.named_by}
use Rattle.pim_event.{proofs.{Disturbing.{firing_disturbs, instant_disturbed, instant_disturbs_none}, Firings.{firing_costs, instant_cost, instant_costs_none, instant_ended_silently, instant_silent}, Listing.{firing_lists, instant_listed, instant_lists_none}, Instants.{ending_told, fewer_after, firing_follows, instant_begins, instant_ends, none_told}}, specs.{Disturbing.disturbed_at, Ends.ending_of}}
use Rattle.pim_model.{specs.{Firing.fire_once, Timers.next_due}}
use Rattle.pim_event.proofs.time.fire_instant.Goals as goal

pub firings-init : goal.firings-init
firings-init c = (instant_begins c.args.turn.now.draw c.args.core.now.world (ending_of c.args.first) c.args.emissions.now.items c.requires.lawful c.requires.quiet c.requires.from, refl, c.requires.shown, instant_costs_none c.args.turn.now.draw c.args.core.now.world (ending_of c.args.first) (touches c.args.core.now.cache), instant_lists_none c.args.turn.now.draw c.args.core.now.world (ending_of c.args.first) c.args.core.now.cache.changed, λ o stays. stays, instant_disturbs_none c.args.turn.now.draw c.args.core.now.world (ending_of c.args.first) c.args.core.now.cache.disturbed, refl)

pub fire_once-requires-clause-within : goal.fire_once-requires-clause-within
fire_once-requires-clause-within c =
    let by : c.in-Some.due.0 ≤ c.args.first.0 =
    next_is_due c.args.first.0 c.firings.core.world (ending_of c.in-Some.due)
    (ending_told (next_due c.args.first.0 c.firings.core.world) c.in-Some.due (sym c.next_due.ensures ∙ c.in-Some.is)) in
    let within = c.requires.within in omega arith

pub firings-smaller : goal.firings-smaller
firings-smaller c =
    fewer_after c.args.turn.now.draw c.args.core.now.world (ending_of c.args.first) c.args.emissions.now.items
    c.firings.core.world c.firings.emissions.items c.firings.invariant.0 (ending_of c.in-Some.due)
    (ending_told (next_due c.args.first.0 c.firings.core.world) c.in-Some.due (sym c.next_due.ensures ∙ c.in-Some.is))
    c.fire_once.new.core.world
    (c.in_ok-fire_once.ensures.state
    ∙ ap (λ w. (fire_once w c.firings.core.world (ending_of c.in-Some.due)).0) c.firings.invariant.1)

pub firings-preserved : goal.firings-preserved
firings-preserved c = (
  firing_follows c.args.turn.now.draw c.args.core.now.world (ending_of c.args.first) c.args.emissions.now.items
      c.firings.core.world c.firings.emissions.items c.firings.invariant.0 (ending_of c.in-Some.due)
      (ending_told (next_due c.args.first.0 c.firings.core.world) c.in-Some.due (sym c.next_due.ensures ∙ c.in-Some.is))
      c.fire_once.new.core.world c.fire_once.new.emissions.items
      (c.in_ok-fire_once.ensures.state
      ∙ ap (λ w. (fire_once w c.firings.core.world (ending_of c.in-Some.due)).0) c.firings.invariant.1)
      (c.in_ok-fire_once.ensures.sent
      ∙ ap (λ w. c.firings.emissions.items ++ (fire_once w c.firings.core.world (ending_of c.in-Some.due)).1)
      c.firings.invariant.1),
  c.in_ok-fire_once.ensures.draw ∙ c.firings.invariant.1,
  c.in_ok-fire_once.ensures.cache.shown,
  firing_costs c.args.turn.now.draw c.args.core.now.world (ending_of c.args.first) (touches c.args.core.now.cache)
      c.firings.core.world (touches c.firings.core.cache) (ending_of c.in-Some.due) c.firings.invariant.0.lawful.firable
      (shown_from c.args.first.0 c.firings.core.world c.firings.invariant.0.inside.from)
      (ending_told (next_due c.args.first.0 c.firings.core.world) c.in-Some.due (sym c.next_due.ensures ∙ c.in-Some.is))
      c.fire_once.new.core.world (touches c.fire_once.new.core.cache)
      (c.in_ok-fire_once.ensures.state
      ∙ ap (λ w. (fire_once w c.firings.core.world (ending_of c.in-Some.due)).0) c.firings.invariant.1)
      c.in_ok-fire_once.ensures.cache.few c.firings.invariant.3,
  firing_lists c.args.turn.now.draw c.args.core.now.world (ending_of c.args.first) c.args.core.now.cache.changed
      c.firings.core.world c.firings.core.cache.changed (ending_of c.in-Some.due) c.firings.invariant.0.lawful.firable
      (shown_from c.args.first.0 c.firings.core.world c.firings.invariant.0.inside.from)
      (ending_told (next_due c.args.first.0 c.firings.core.world) c.in-Some.due (sym c.next_due.ensures ∙ c.in-Some.is))
      c.fire_once.new.core.world c.fire_once.new.core.cache.changed
      (c.in_ok-fire_once.ensures.state
      ∙ ap (λ w. (fire_once w c.firings.core.world (ending_of c.in-Some.due)).0) c.firings.invariant.1)
      c.in_ok-fire_once.ensures.cache.listed c.firings.invariant.4,
  λ o stays. c.in_ok-fire_once.ensures.cache.stays o (c.firings.invariant.5 o stays),
  firing_disturbs c.args.turn.now.draw c.args.core.now.world (ending_of c.args.first) c.args.core.now.cache.disturbed
      c.firings.core.world c.firings.core.cache.disturbed (ending_of c.in-Some.due) c.firings.invariant.0.lawful.firable
      (shown_from c.args.first.0 c.firings.core.world c.firings.invariant.0.inside.from)
      (ending_told (next_due c.args.first.0 c.firings.core.world) c.in-Some.due (sym c.next_due.ensures ∙ c.in-Some.is))
      c.fire_once.new.core.world c.fire_once.new.core.cache.disturbed
      (c.in_ok-fire_once.ensures.state
      ∙ ap (λ w. (fire_once w c.firings.core.world (ending_of c.in-Some.due)).0) c.firings.invariant.1)
      c.in_ok-fire_once.ensures.disturbed c.firings.invariant.6,
  c.in_ok-fire_once.ensures.kept ∙ c.firings.invariant.7,
)

pub returns-clause-state : goal.returns-clause-state
returns-clause-state c =
    (instant_ends c.args.turn.now.draw c.args.core.now.world (ending_of c.args.first) c.args.emissions.now.items
    c.firings.core.world c.firings.emissions.items c.firings.invariant.0
    (none_told (next_due c.args.first.0 c.firings.core.world) (sym c.next_due.ensures ∙ c.in_default.is))).0

pub returns-clause-sent : goal.returns-clause-sent
returns-clause-sent c =
    (instant_ends c.args.turn.now.draw c.args.core.now.world (ending_of c.args.first) c.args.emissions.now.items
    c.firings.core.world c.firings.emissions.items c.firings.invariant.0
    (none_told (next_due c.args.first.0 c.firings.core.world) (sym c.next_due.ensures ∙ c.in_default.is))).1

pub returns-clause-disturbed : goal.returns-clause-disturbed
returns-clause-disturbed c =
    instant_disturbed c.args.turn.now.draw c.args.core.now.world (ending_of c.args.first) c.args.core.now.cache.disturbed
    c.firings.core.world c.firings.core.cache.disturbed
    (instant_ended_silently disturbed_at c.args.turn.now.draw c.firings.core.world (ending_of c.args.first)
    (none_told (next_due c.args.first.0 c.firings.core.world) (sym c.next_due.ensures ∙ c.in_default.is)))
    c.firings.invariant.6

pub returns-clause-cache : goal.returns-clause-cache
returns-clause-cache c = record {
  shown = c.firings.invariant.2;
  few = instant_cost c.args.turn.now.draw c.args.core.now.world (ending_of c.args.first) (touches c.args.core.now.cache)
      c.firings.core.world (touches c.firings.core.cache)
      (none_told (next_due c.args.first.0 c.firings.core.world) (sym c.next_due.ensures ∙ c.in_default.is))
      c.firings.invariant.3;
  listed = instant_listed c.args.turn.now.draw c.args.core.now.world (ending_of c.args.first) c.args.core.now.cache.changed
      c.firings.core.world c.firings.core.cache.changed
      (instant_silent named_by c.args.turn.now.draw c.firings.core.world (ending_of c.args.first)
      (none_told (next_due c.args.first.0 c.firings.core.world) (sym c.next_due.ensures ∙ c.in_default.is)))
      c.firings.invariant.4;
  stays = c.firings.invariant.5;
}

pub returns-clause-kept : goal.returns-clause-kept
returns-clause-kept c = c.firings.invariant.7
