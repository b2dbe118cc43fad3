use Rattle.std.{proofs.Common.{◌≡◌, true, List, IfOk, OnOk, ap, arith, subst, sym, ◌∙◌}}
use Rattle.pim_types.{specs.declared.fact.Key.Key}
use Rattle.pim_model.{specs.{declared.accepted.Accepted.Accepted, Full.is_full, Step.{Answered, outcome_of, taken, taken_unless_full}}}
use Rattle.law_events.{specs.Named.named_of}
use Rattle.pim_event.{proofs.{Rows.{named_in_time, named_with_room}, Taking.{time_is_taken, with_room, without_room}, Disturbing.{disturbed_in_room, disturbed_in_time, undisturbed_when_full}, Listing.{named_without_room, nothing_more, once_alone}, Repeating.{iface_below, keys_on, planned_again, planned_refreshed, planned_renewed, report_below, turns_again, turns_refreshed, turns_renewed}, Replacing.full_replaces_none}, specs.{Caching.CacheFollows, Disturbing.disturbed_of, Replacing.replaced_after}}
use Rattle.pim_plan.{specs.{Acting.act_event, Naming.IsConfigured, Planning.{Fits, IsPlanned}, declared.plan.Planning.Planning}}
use Rattle.pim_state.{specs.declared.touched.Touched.Touched}
use Rattle.pim_fanout.{specs.Disturbed.joined}
use Rattle.pim_event.proofs.event.plan_and_act.Goals as goal

pub advance-requires-clause-within : goal.advance-requires-clause-within
advance-requires-clause-within c =
    subst (λ (a : Accepted). IsConfigured c.args.core.now.world a)
    (subst (λ (p : Planning). IsPlanned c.args.core.now.world c.args.accepted p) c.in-Time.is c.in_ok-planning.ensures)
    c.requires.begun.configured

pub planned-requires-clause-configured : goal.planned-requires-clause-configured
planned-requires-clause-configured c = c.requires.begun.configured

pub returns-in-Time : goal.returns-in-Time
returns-in-Time c =
    let is : c.args.accepted ≡ Accepted.Advance c.in-Time.moment =
    subst (λ (p : Planning). IsPlanned c.args.core.now.world c.args.accepted p) c.in-Time.is c.in_ok-planning.ensures in
    let same = time_is_taken c.args.core.now.world c.args.turn.now.draw c.args.accepted c.in-Time.moment is in
    let named = named_in_time c.args.core.now.world c.args.turn.now.draw c.args.accepted c.in-Time.moment is in
    record {
      outcome = subst (λ (x : Answered). IfOk c.advance.result (λ outcome. outcome ≡ outcome_of x)) same
          c.advance.ensures.outcome;
      state = subst (λ (x : Answered). OnOk c.advance.result (c.advance.new.core.world ≡ x.state)) same
          c.advance.ensures.state;
      cache = subst (λ (ks : List Key). OnOk c.advance.result (CacheFollows c.args.core.now.world c.advance.new.core.world ks
          c.args.core.now.cache c.advance.new.core.cache)) named c.advance.ensures.cache;
      disturbed = subst (λ (t : Touched). OnOk c.advance.result (c.advance.new.core.cache.disturbed ≡ joined c.args.core.now.cache.disturbed t))
          (disturbed_in_time c.args.core.now.world c.args.turn.now.draw c.args.accepted c.in-Time.moment is)
          c.advance.ensures.disturbed;
      once = c.advance.ensures.once;
      replaced = subst (λ (a : Accepted). OnOk c.advance.result (c.advance.new.core.replaced
          ≡ replaced_after c.args.core.now.world a c.args.core.now.replaced)) (sym is) c.advance.ensures.replaced;
      fault = c.advance.ensures.fault;
    }

pub take_again-requires-clause-within : goal.take_again-requires-clause-within
take_again-requires-clause-within c =
    iface_below c.args.core.now.world c.args.accepted c.in-Again.iface c.in-Again.holdtime c.in-Again.named
    (planned_again c.args.core.now.world c.args.accepted _ _ _ _ c.in-Again.is c.in_ok-planning.ensures)
    c.interfaces.result.now c.interfaces.ensures c.proof_few.ensures c.requires.begun.configured

pub take_again-requires-clause-ordered : goal.take_again-requires-clause-ordered
take_again-requires-clause-ordered c = c.requires.begun.rest.settled.ordered

pub take_again-requires-clause-joined : goal.take_again-requires-clause-joined
take_again-requires-clause-joined c =
    keys_on c.args.core.now.world c.args.accepted c.in-Again.iface c.in-Again.holdtime c.in-Again.named
    (planned_again c.args.core.now.world c.args.accepted _ _ _ _ c.in-Again.is c.in_ok-planning.ensures)

pub take_again-requires-clause-again : goal.take_again-requires-clause-again
take_again-requires-clause-again c =
    (planned_again c.args.core.now.world c.args.accepted _ _ _ _ c.in-Again.is c.in_ok-planning.ensures).again

pub returns-in_ok-take_again-in-Again : goal.returns-in_ok-take_again-in-Again
returns-in_ok-take_again-in-Again c =
    turns_again c.args.core.now c.args.turn.now.draw c.args.accepted c.in-Again.iface c.in-Again.holdtime c.in-Again.named
    c.take_again.new.world c.done_silently.result c.interfaces.result.now c.requires.begun.rest c.requires.begun.shown
    c.requires.begun.unlisted
    (planned_again c.args.core.now.world c.args.accepted _ _ _ _ c.in-Again.is c.in_ok-planning.ensures)
    c.in_ok-take_again-in-Again.ensures c.done_silently.ensures c.interfaces.ensures c.proof_few.ensures

pub returns-in_ok-replace_neighbour-in-Refreshed : goal.returns-in_ok-replace_neighbour-in-Refreshed
returns-in_ok-replace_neighbour-in-Refreshed c =
    turns_refreshed c.args.core.now c.args.turn.now.draw c.args.accepted c.in-Refreshed.iface c.in-Refreshed.from
    c.in-Refreshed.hello c.replace_neighbour.new.self c.done_silently-in-Refreshed.result c.interfaces-in-Refreshed.result.now
    c.requires.begun.rest c.requires.begun.shown c.requires.begun.unlisted
    (planned_refreshed c.args.core.now.world c.args.accepted _ _ _ _ c.in-Refreshed.is c.in_ok-planning.ensures)
    c.in_ok-replace_neighbour-in-Refreshed.ensures c.proof_keyed.ensures c.done_silently-in-Refreshed.ensures c.interfaces-in-Refreshed.ensures
    c.proof_few-in-Refreshed.ensures

pub take_renewed-requires : goal.take_renewed-requires
take_renewed-requires c =
    report_below c.args.core.now.world c.args.accepted c.in-Renewed.iface c.in-Renewed.report
    (planned_renewed c.args.core.now.world c.args.accepted _ _ _ c.in-Renewed.is c.in_ok-planning.ensures)
    c.interfaces-in-Renewed.result.now c.interfaces-in-Renewed.ensures c.proof_few-in-Renewed.ensures c.requires.begun.configured

pub returns-in_ok-take_renewed-in-Renewed : goal.returns-in_ok-take_renewed-in-Renewed
returns-in_ok-take_renewed-in-Renewed c =
    turns_renewed c.args.core.now c.args.turn.now.draw c.args.accepted c.in-Renewed.iface c.in-Renewed.report
    c.take_renewed.new.world c.done_silently-in-Renewed.result c.interfaces-in-Renewed.result.now c.requires.begun.rest
    c.requires.begun.shown c.requires.begun.unlisted
    (planned_renewed c.args.core.now.world c.args.accepted _ _ _ c.in-Renewed.is c.in_ok-planning.ensures)
    c.in_ok-take_renewed-in-Renewed.ensures c.proof_keyed-in-Renewed.ensures c.done_silently-in-Renewed.ensures c.interfaces-in-Renewed.ensures
    c.proof_few-in-Renewed.ensures

pub change_and_refresh-requires-clause-begun : goal.change_and_refresh-requires-clause-begun
change_and_refresh-requires-clause-begun c =
    let fits : Fits c.args.core.now.world c.args.accepted c.in-Change.plan =
    subst (λ (p : Planning). IsPlanned c.args.core.now.world c.args.accepted p) c.in-Change.is c.in_ok-planning.ensures in
    record {
      rest = c.requires.begun.rest;
      shown = c.requires.begun.shown;
      begun = c.requires.begun.begun;
      unlisted = c.requires.begun.unlisted;
      configured = subst (λ (a : Accepted). IsConfigured c.args.core.now.world a) (sym fits.event) c.requires.begun.configured;
    }

pub change_and_refresh-requires-clause-plan : goal.change_and_refresh-requires-clause-plan
change_and_refresh-requires-clause-plan c =
    let fits : Fits c.args.core.now.world c.args.accepted c.in-Change.plan =
    subst (λ (p : Planning). IsPlanned c.args.core.now.world c.args.accepted p) c.in-Change.is c.in_ok-planning.ensures in
    subst (λ (a : Accepted). Fits c.args.core.now.world a c.in-Change.plan) (sym fits.event) fits

pub returns-in-Change : goal.returns-in-Change
returns-in-Change c =
    let fits : Fits c.args.core.now.world c.args.accepted c.in-Change.plan =
    subst (λ (p : Planning). IsPlanned c.args.core.now.world c.args.accepted p) c.in-Change.is c.in_ok-planning.ensures in
    let same : taken c.args.core.now.world c.args.turn.now.draw (act_event c.in-Change.plan.act)
    ≡ taken_unless_full c.args.core.now.world c.args.turn.now.draw c.args.accepted =
    ap (λ (a : Accepted). taken c.args.core.now.world c.args.turn.now.draw a) fits.event
    ∙ sym (with_room c.args.core.now.world c.args.turn.now.draw c.args.accepted fits.room) in
    let named = ap (λ (a : Accepted). named_of c.args.core.now.world c.args.turn.now.draw a) fits.event
    ∙ named_with_room c.args.core.now.world c.args.turn.now.draw c.args.accepted fits.room in
    record {
      outcome = subst (λ (x : Answered). IfOk c.change_and_refresh.result (λ outcome. outcome ≡ outcome_of x)) same
          c.change_and_refresh.ensures.turn.outcome;
      state = subst (λ (x : Answered). OnOk c.change_and_refresh.result (c.change_and_refresh.new.core.world ≡ x.state)) same
          c.change_and_refresh.ensures.turn.state;
      cache = subst (λ (ks : List Key). OnOk c.change_and_refresh.result (CacheFollows c.args.core.now.world
          c.change_and_refresh.new.core.world ks c.args.core.now.cache c.change_and_refresh.new.core.cache)) named c.change_and_refresh.ensures.turn.cache;
      disturbed = subst (λ (t : Touched). OnOk c.change_and_refresh.result (c.change_and_refresh.new.core.cache.disturbed
          ≡ joined c.args.core.now.cache.disturbed t))
          (ap (λ (a : Accepted). disturbed_of c.args.core.now.world c.args.turn.now.draw a) fits.event
          ∙ disturbed_in_room c.args.core.now.world c.args.turn.now.draw c.args.accepted fits.room)
          c.change_and_refresh.ensures.turn.disturbed;
      once = c.change_and_refresh.ensures.turn.once;
      replaced = subst (λ (a : Accepted). OnOk c.change_and_refresh.result (c.change_and_refresh.new.core.replaced
          ≡ replaced_after c.args.core.now.world a c.args.core.now.replaced)) fits.event c.change_and_refresh.ensures.turn.replaced;
      fault = c.change_and_refresh.ensures.turn.fault;
    }

pub returns-in-Full : goal.returns-in-Full
returns-in-Full c =
    let full : is_full c.args.core.now.world c.args.accepted ≡ true =
    subst (λ (p : Planning). IsPlanned c.args.core.now.world c.args.accepted p) c.in-Full.is c.in_ok-planning.ensures in
    let refused = sym (without_room c.args.core.now.world c.args.turn.now.draw c.args.accepted full) in
    record {
      outcome = c.stopped.ensures ∙ ap outcome_of refused;
      state = ap (λ (x : Answered). x.state) refused;
      cache = record {
        shown = c.requires.begun.shown;
        few = omega arith;
        listed = nothing_more c.args.core.now.cache.changed _
            (named_without_room c.args.core.now.world c.args.turn.now.draw c.args.accepted full);
        stays = λ o stays. stays;
      };
      disturbed = undisturbed_when_full c.args.core.now.world c.args.turn.now.draw c.args.accepted c.args.core.now.cache.disturbed full;
      once = once_alone c.args.core.now.cache.changed c.requires.begun.unlisted;
      replaced = full_replaces_none c.args.core.now.world c.args.accepted c.args.core.now.replaced full;
      fault = tt;
    }
