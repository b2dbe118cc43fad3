-- One more timestamp, or none.
use Rattle.std.{proofs.Common.{rules, ◌≡◌, ◌∙◌, ◌≤◌, None, arith, sym}}
use Rattle.pim_model.{specs.Judging.last_moment}
use Rattle.pim_lab.{specs.Stops.{most_stops, next_stop}, proofs.Stops.{in_time, last_stop, more_stops, most_found}}
use Rattle.pim_lab.proofs.shared.stops_on_the_way.Goals as goal

pub announcements-preserved : goal.announcements-preserved
announcements-preserved c =
    more_stops c.args.anycast.now c.args.moment c.announcements.passed most_stops c.announcements.counter (omega arith)
    c.announcements.found.items _ _ c.in-Some.next (sym c.next_stop.ensures ∙ c.in-Some.is) c.in_ok-push.ensures.items
    c.announcements.invariant

pub returns-in_default : goal.returns-in_default
returns-in_default c =
    let none : next_stop c.args.anycast.now c.args.moment c.announcements.passed ≡ None = search rules in
    let early : c.args.moment ≤ last_moment = omega arith in
    last_stop c.args.anycast.now c.args.moment c.announcements.passed most_stops c.announcements.counter (omega arith)
    c.announcements.found.items _ none c.announcements.invariant
    ∙ sym (in_time c.args.anycast.now c.args.present c.args.moment early)

pub returns : goal.returns
returns c =
    let early : c.args.moment ≤ last_moment = omega arith in
    most_found c.args.anycast.now c.args.moment c.announcements.passed most_stops c.announcements.counter
    c.announcements.found.items _ (omega arith) c.announcements.invariant
    ∙ sym (in_time c.args.anycast.now c.args.present c.args.moment early)
