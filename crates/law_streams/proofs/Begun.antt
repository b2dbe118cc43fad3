-- Routers that begin at moves of their own, put together.
use Rattle.std.{proofs.Common.{◌≡◌, ◌∙◌, ℕ, suc, ◌+◌, List, [], ◌∷◌, ◌++◌, length, Some, refl, sym, ap, subst, arith}}
use Rattle.pim_types.{specs.declared.event.Event.Event}
use Rattle.pim_model.{specs.{Network.{At, Deliver, Move, Network, moved, network_ran, station_at}, State.State, Step.{state_after, step}}}
use Rattle.law_streams.{specs.{Networks.events_in, Flows.{IsCarried, IsFlowed, IsLaterFrame, top_link}, HostsServed.became, Ways.{AreApart, IsGroup, IsNotAmong, Place, StandIn, state_of, up_iface}, Begun.{BeginsAt, BegunStreamIsServed, ByJoin, ByReport, EachOfBegunStreamIsServed, HasBegun, HasTakenAt, HaveBegun, HostBeginsStream, JoinBeginsSending}, Climbing.delivered, Passing.{Receiver, Tree}, StreamRoots.Sends, Streams.{IsStreamed, PassesAt}}, proofs.{Networks.runs_alone, Climbs.still_stand, Deliveries.{IsStepped, is_moved}, Hosts.{host_asks, report_makes_member}, Passes.join_event, Begins.{begins, begins_sending}, Climbing.stepped_so, Passing.run_keeps_passing, StreamRoots.{did, put_on, run_keeps_sending}, Streams.{streams, member_begins_stream}}}
use Rattle.law_settled.{proofs.Steps.step_is_settled}

pub host_begins_stream : HostBeginsStream
host_begins_stream g rp src link p e records asks is can =
    member_begins_stream g src link (became p (step (state_of p) e).state)
    (step_is_settled (state_of p) e (can.can_carry).settled) (host_asks g rp src link p e records asks is can).passes_on
    (report_makes_member g rp src link p e records asks is can)

-- a station is that of one state
same_state : (p : Place) (x y : State) → Some (became p x).station ≡ Some (became p y).station → x ≡ y
same_state p x y h = grind arith

pub join_begins_sending : JoinBeginsSending
join_begins_sending g rp from to link src k p m isg can settled unlost at there state is =
    subst (λ (x : State). Sends x g src p.down)
    (same_state p (step (state_of p) (join_event g rp from to link p isg can)).state state (sym (stepped_so g rp isg from to link k p can m at there).here ∙ is))
    (begins_sending g rp from to link src p isg can settled unlost)

-- a move in the midst of others
ran_both : (n : Network) (xs : List Move) (y : Move) (ys : List Move)
    → (network_ran n (xs ++ y ∷ ys)).1 ≡ (network_ran (moved (network_ran n xs).1 y).1 ys).1
unfolding network_ran
ran_both n [] y ys = refl
ran_both n (x ∷ xs) y ys = ran_both (moved n x).1 xs y ys

-- ---- one router

record Starts (g src link : ℕ) (by : Receiver) (m : Network) (p : Place) : Type 0 where
  state : State
  there : station_at m p.router ≡ Some (became p state).station
  passes : PassesAt Tree.Shared by g src link (became p state)

starts : (g rp src link : ℕ) (isg : IsGroup g rp) (m : Network) (p : Place) (by : Receiver) (move : Move)
    → station_at m p.router ≡ Some p.station → BeginsAt g rp src link m p by move
    → Starts g src link by (moved m move).1 p
starts g rp src link isg m p _ _ at (ByReport e records asks is can) = record {
  state = (step (state_of p) e).state;
  there = (is_moved m p.router p.station e at).here;
  passes = host_begins_stream g rp src link p e records asks is can;
}
starts g rp src link isg m p _ _ at (ByJoin from to k can on there linked) = record {
  state = (step (state_of p) (join_event g rp from to link p isg can)).state;
  there = (stepped_so g rp isg from to link k p can m at there).here;
  passes = record {
    passes = begins g rp from to link src p isg can on;
    down_linked = can.on_link;
    up_linked = linked;
  };
}

module _ (g rp src link : ℕ) (isg : IsGroup g rp) (n : Network) (ms : List Move) (by : Receiver) (p : Place)
    (b : HasBegun g rp src link n ms by p) where
  abbrev middle : Network
  middle = (moved (network_ran n b.before).1 b.move).1

  first : Starts g src link by middle p
  first = starts g rp src link isg (network_ran n b.before).1 p by b.move b.stands b.begins

  is_end : (network_ran middle b.after).1 ≡ (network_ran n ms).1
  is_end = grind (arith, ran_both)

  abbrev now : State
  now = state_after (first).state (events_in p.router middle b.after)

  now_there : station_at (network_ran n ms).1 p.router ≡ Some (became p now).station
  now_there =
      ap (λ (x : Network). station_at x p.router) (sym is_end)
      ∙ (runs_alone p.router b.after middle).stands (became p (first).state).station (first).there

  now_passes : PassesAt Tree.Shared by g src link (became p now)
  now_passes = record {
    passes =
        run_keeps_passing Tree.Shared by (first).state (events_in p.router middle b.after) g src (up_iface p) p.down
        ((first).passes).passes (b.goes_on (first).state (first).there);
    down_linked = ((first).passes).down_linked;
    up_linked = ((first).passes).up_linked;
  }

-- ---- the way

abbrev shared : ℕ → Tree
shared r = Tree.Shared

record Now (by : ℕ → Receiver) (m : Network) (g src link : ℕ) (ps : List Place) : Type 0 where
  places : List Place
  streamed : IsStreamed shared by g src link places
  stand : StandIn m places
  among : (r : ℕ) → IsNotAmong r ps → IsNotAmong r places
  apart : AreApart ps → AreApart places
  top : top_link link places ≡ top_link link ps
  long : length places ≡ length ps
  later : (x : Network) (k : ℕ) → IsLaterFrame x k places → IsLaterFrame x k ps

now_of : (by : ℕ → Receiver) (g rp src link : ℕ) → IsGroup g rp → (n : Network) (ms : List Move) (ps : List Place)
    → HaveBegun by g rp src link n ms ps → Now by (network_ran n ms).1 g src link ps
now_of by g rp src link isg n ms [] b = record {
  places = [];
  streamed = tt;
  stand = tt;
  among = λ r off. tt;
  apart = λ a. tt;
  top = refl;
  long = refl;
  later = λ x k f. f;
}
now_of by g rp src link isg n ms (p ∷ ps) b =
    let rest : Now by (network_ran n ms).1 g src p.next_link ps = now_of by g rp src p.next_link isg n ms ps b.1 in
    record {
      places = became p (now g rp src link isg n ms (by p.router) p b.0) ∷ rest.places;
      streamed = (now_passes g rp src link isg n ms (by p.router) p b.0, rest.streamed);
      stand = (now_there g rp src link isg n ms (by p.router) p b.0, rest.stand);
      among = λ r off. (off.0, rest.among r off.1);
      apart = λ a. (rest.among p.router a.0, rest.apart a.1);
      top = rest.top;
      long = ap suc rest.long;
      later = λ x k f. f;
    }

module _ (by : ℕ → Receiver) (m x : Network) (g src link lives : ℕ) (payload : List ℕ) (ps : List Place)
    (f : Now by m g src link ps) where
  flows : IsFlowed x g src link payload lives f.places → IsFlowed x g src link payload lives ps
  flows h = record {
    moves = h.moves;
    deliveries = h.deliveries;
    one_each = h.one_each ∙ f.long;
    arrived = h.arrived;
    new = f.later x (h.arrived.on_link).number h.new;
    grows = h.grows;
    others = λ r off. h.others r (f.among r off);
  }

  carried : IsCarried x g src (top_link link ps) payload (lives + length ps)
      → IsCarried x g src (top_link link f.places) payload (lives + length f.places)
  carried c = grind arith

pub begun_stream_is_served : BegunStreamIsServed
begun_stream_is_served by n ms g rp src link lives payload ps isg some begun apart c =
    let m : Network = (network_ran n ms).1 in
    let f : Now by m g src link ps = now_of by g rp src link isg n ms ps begun in
    flows by m m g src link lives payload ps f
    (streams g src payload isg.multicast isg.goes_far shared by link lives f.places m some f.streamed f.stand (f.apart apart)
    (carried by m m g src link lives payload ps f c))

-- ---- the last router

module _ (g rp src link : ℕ) (isg : IsGroup g rp) (n : Network) (ms : List Move) (p : Place)
    (b : HasTakenAt g rp src link n ms p) (state : State)
    (is : station_at (network_ran n ms).1 p.router ≡ Some (became p state).station) where
  abbrev found : Network
  found = (network_ran n b.before).1

  abbrev took : Network
  took = delivered found p b.number

  abbrev event : Event
  event = join_event g rp b.from b.to link p isg b.takes

  stepped : IsStepped found p.router p.station event took
  stepped = stepped_so g rp isg b.from b.to link b.number p b.takes found b.stands b.there

  abbrev begun : State
  begun = (step (state_of p) event).state

  sends_then : Sends begun g src p.down
  sends_then = begins_sending g rp b.from b.to link src p isg b.takes b.settled b.unlost

  sends_now : Sends state g src p.down
  sends_now =
      subst (λ (x : State). Sends x g src p.down)
      (same_state p (state_after begun (events_in p.router took b.after)) state
      (sym ((runs_alone p.router b.after took).stands (became p begun).station (stepped).here)
      ∙ (ap (λ (x : Network). station_at x p.router)
      (sym (ran_both n b.before (Deliver p.router p.down b.number p.draw) b.after)
      ∙ ap (λ (xs : List Move). (network_ran n xs).1) (sym b.whole)) ∙ is)))
      (run_keeps_sending begun (events_in p.router took b.after) g src p.down sends_then
      (b.goes_on begun (stepped).here))

pub each_of_begun_stream_is_served : EachOfBegunStreamIsServed
each_of_begun_stream_is_served by n ms g rp src link lives payload root ps d state isg some begun taken apart is b =
    let m : Network = (network_ran n ms).1 in
    let f : Now by m g src link ps = now_of by g rp src link isg n ms ps begun in
    let x : Network = (moved m (At root.router d)).1 in
    let sends : Sends state g src root.down = sends_now g rp src (top_link link ps) isg n ms root taken state is in
    let last : Place = became root state in
    let c : IsCarried x g src (top_link link ps) payload (lives + length ps) =
    put_on m g src (top_link link ps) (lives + length ps) payload last d is sends (taken.takes).on_link (omega (arith, some)) b in
    flows by m x g src link lives payload ps f
    (streams g src payload isg.multicast isg.goes_far shared by link lives f.places x some f.streamed
    (still_stand m x root.router
    (did m g src (top_link link ps) (lives + length ps) payload last d is sends (taken.takes).on_link (omega (arith, some)) b).beside
    f.places (f.among root.router apart.0) f.stand)
    (f.apart apart.1) (carried by m x g src link lives payload ps f c))
