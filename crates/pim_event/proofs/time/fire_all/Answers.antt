use Rattle.std.{proofs.Common.{◌≡◌, ◌≤◌, ◌+◌, ◌*◌, ◌++◌, length, ap, arith, refl, subst, sym, ◌∙◌}}
use Rattle.pim_fanout.{specs.{Refreshing.touches, Disturbed.joined}}
use Rattle.pim_model.{specs.{Reach.told_instant, Firing.fire_instant, Timers.next_due}}
use Rattle.law_events.{specs.Named.named_by}
use Rattle.pim_event.{specs.{Disturbing.{ended_instant, joined_all, disturbed_at}, Listing.ListsMore, Ends.ending_of}, proofs.{Disturbing.{all_disturbed, all_disturbs_none, instant_disturbs}, Firings.{all_cost, all_costs_none, all_ended_silently, all_silent, instant_costs}, Listing.{all_listed, all_lists_none, instant_lists}, Instants.{ending_told, firing_begins, firing_ends, instant_follows, none_told, sooner_after}}}
use Rattle.law_settled.{proofs.FiringLaws.{next_is_due, next_is_least}}
use Rattle.pim_event.proofs.time.fire_all.Goals as goal

pub instants-init : goal.instants-init
instants-init c = (firing_begins c.args.turn.now.draw c.args.moment c.args.core.now.world c.args.emissions.now.items c.requires.lawful c.requires.quiet c.requires.ready, refl, c.requires.shown, all_costs_none c.args.turn.now.draw c.args.moment c.args.core.now.world (touches c.args.core.now.cache), all_lists_none c.args.turn.now.draw c.args.moment c.args.core.now.world c.args.core.now.cache.changed, λ o stays. stays, all_disturbs_none c.args.turn.now.draw c.args.moment c.args.core.now.world c.args.core.now.cache.disturbed, refl)

pub fire_instant-requires-clause-from : goal.fire_instant-requires-clause-from
fire_instant-requires-clause-from c =
    next_is_least c.args.moment c.instants.core.world (ending_of c.in-Some.first)
    (ending_told (next_due c.args.moment c.instants.core.world) c.in-Some.first (sym c.next_due.ensures ∙ c.in-Some.is))

pub fire_instant-requires-clause-within : goal.fire_instant-requires-clause-within
fire_instant-requires-clause-within c =
    let by : c.in-Some.first.0 ≤ c.args.moment =
    next_is_due c.args.moment c.instants.core.world (ending_of c.in-Some.first)
    (ending_told (next_due c.args.moment c.instants.core.world) c.in-Some.first (sym c.next_due.ensures ∙ c.in-Some.is)) in
    let within = c.requires.within in omega arith

pub instants-smaller : goal.instants-smaller
instants-smaller c =
    sooner_after c.args.turn.now.draw c.args.moment c.args.core.now.world c.args.emissions.now.items
    c.instants.core.world c.instants.emissions.items c.instants.invariant.0 (ending_of c.in-Some.first)
    (ending_told (next_due c.args.moment c.instants.core.world) c.in-Some.first (sym c.next_due.ensures ∙ c.in-Some.is))
    c.fire_instant.new.core.world
    (c.in_ok-fire_instant.ensures.state
    ∙ ap (λ w. (fire_instant w c.instants.core.world (ending_of c.in-Some.first)).0) c.instants.invariant.1)

pub instants-preserved : goal.instants-preserved
instants-preserved c = (
  instant_follows c.args.turn.now.draw c.args.moment c.args.core.now.world c.args.emissions.now.items
      c.instants.core.world c.instants.emissions.items c.instants.invariant.0 (ending_of c.in-Some.first)
      (ending_told (next_due c.args.moment c.instants.core.world) c.in-Some.first (sym c.next_due.ensures ∙ c.in-Some.is))
      c.fire_instant.new.core.world c.fire_instant.new.emissions.items
      (c.in_ok-fire_instant.ensures.state
      ∙ ap (λ w. (fire_instant w c.instants.core.world (ending_of c.in-Some.first)).0) c.instants.invariant.1)
      (c.in_ok-fire_instant.ensures.sent
      ∙ ap (λ w. c.instants.emissions.items ++ (fire_instant w c.instants.core.world (ending_of c.in-Some.first)).1)
      c.instants.invariant.1),
  c.in_ok-fire_instant.ensures.draw ∙ c.instants.invariant.1,
  c.in_ok-fire_instant.ensures.cache.shown,
  instant_costs c.args.turn.now.draw c.args.moment c.args.core.now.world (touches c.args.core.now.cache) c.instants.core.world
      (touches c.instants.core.cache) (ending_of c.in-Some.first) c.instants.invariant.0.ready
      (ending_told (next_due c.args.moment c.instants.core.world) c.in-Some.first (sym c.next_due.ensures ∙ c.in-Some.is))
      c.fire_instant.new.core.world (touches c.fire_instant.new.core.cache)
      (c.in_ok-fire_instant.ensures.state
      ∙ ap (λ w. (fire_instant w c.instants.core.world (ending_of c.in-Some.first)).0) c.instants.invariant.1)
      (subst (λ w. touches c.fire_instant.new.core.cache ≤ touches c.instants.core.cache
      + 2 * length (told_instant named_by w c.instants.core.world (ending_of c.in-Some.first)).1) c.instants.invariant.1
      c.in_ok-fire_instant.ensures.cache.few) c.instants.invariant.3,
  instant_lists c.args.turn.now.draw c.args.moment c.args.core.now.world c.args.core.now.cache.changed c.instants.core.world
      c.instants.core.cache.changed (ending_of c.in-Some.first) c.instants.invariant.0.ready
      (ending_told (next_due c.args.moment c.instants.core.world) c.in-Some.first (sym c.next_due.ensures ∙ c.in-Some.is))
      c.fire_instant.new.core.world c.fire_instant.new.core.cache.changed
      (c.in_ok-fire_instant.ensures.state
      ∙ ap (λ w. (fire_instant w c.instants.core.world (ending_of c.in-Some.first)).0) c.instants.invariant.1)
      (subst (λ w. ListsMore c.instants.core.cache.changed
      (told_instant named_by w c.instants.core.world (ending_of c.in-Some.first)).1 c.fire_instant.new.core.cache.changed)
      c.instants.invariant.1 c.in_ok-fire_instant.ensures.cache.listed) c.instants.invariant.4,
  λ o stays. c.in_ok-fire_instant.ensures.cache.stays o (c.instants.invariant.5 o stays),
  instant_disturbs c.args.turn.now.draw c.args.moment c.args.core.now.world c.args.core.now.cache.disturbed c.instants.core.world
      c.instants.core.cache.disturbed (ending_of c.in-Some.first) c.instants.invariant.0.ready
      (ending_told (next_due c.args.moment c.instants.core.world) c.in-Some.first (sym c.next_due.ensures ∙ c.in-Some.is))
      c.fire_instant.new.core.world c.fire_instant.new.core.cache.disturbed
      (c.in_ok-fire_instant.ensures.state
      ∙ ap (λ w. (fire_instant w c.instants.core.world (ending_of c.in-Some.first)).0) c.instants.invariant.1)
      (subst (λ w. c.fire_instant.new.core.cache.disturbed ≡ joined c.instants.core.cache.disturbed
      (joined_all (ended_instant disturbed_at w c.instants.core.world (ending_of c.in-Some.first)).1))
      c.instants.invariant.1 c.in_ok-fire_instant.ensures.disturbed) c.instants.invariant.6,
  c.in_ok-fire_instant.ensures.kept ∙ c.instants.invariant.7,
)

pub returns-clause-state : goal.returns-clause-state
returns-clause-state c =
    (firing_ends c.args.turn.now.draw c.args.moment c.args.core.now.world c.args.emissions.now.items
    c.instants.core.world c.instants.emissions.items c.instants.invariant.0
    (none_told (next_due c.args.moment c.instants.core.world) (sym c.next_due.ensures ∙ c.in_default.is))).0

pub returns-clause-sent : goal.returns-clause-sent
returns-clause-sent c =
    (firing_ends c.args.turn.now.draw c.args.moment c.args.core.now.world c.args.emissions.now.items
    c.instants.core.world c.instants.emissions.items c.instants.invariant.0
    (none_told (next_due c.args.moment c.instants.core.world) (sym c.next_due.ensures ∙ c.in_default.is))).1

pub returns-clause-disturbed : goal.returns-clause-disturbed
returns-clause-disturbed c =
    all_disturbed c.args.turn.now.draw c.args.moment c.args.core.now.world c.args.core.now.cache.disturbed c.instants.core.world
    c.instants.core.cache.disturbed
    (all_ended_silently disturbed_at c.args.turn.now.draw c.args.moment c.instants.core.world
    (none_told (next_due c.args.moment c.instants.core.world) (sym c.next_due.ensures ∙ c.in_default.is)))
    c.instants.invariant.6

pub returns-clause-cache : goal.returns-clause-cache
returns-clause-cache c = record {
  shown = c.instants.invariant.2;
  few = all_cost c.args.turn.now.draw c.args.moment c.args.core.now.world (touches c.args.core.now.cache) c.instants.core.world
      (touches c.instants.core.cache) c.instants.invariant.3;
  listed = all_listed c.args.turn.now.draw c.args.moment c.args.core.now.world c.args.core.now.cache.changed c.instants.core.world
      c.instants.core.cache.changed
      (all_silent named_by c.args.turn.now.draw c.args.moment c.instants.core.world
      (none_told (next_due c.args.moment c.instants.core.world) (sym c.next_due.ensures ∙ c.in_default.is)))
      c.instants.invariant.4;
  stays = c.instants.invariant.5;
}

pub returns-clause-kept : goal.returns-clause-kept
returns-clause-kept c = c.instants.invariant.7
