-- A router turns to another next hop, to which its Join is delivered.
use Rattle.std.{proofs.Common.{◌≡◌, ℕ, List, Some, refl, sym, subst}, specs.List.Contains}
use Rattle.pim_types.{specs.declared.event.{Event.Event}}
use Rattle.pim_model.{specs.{Network.{Deliver, Move, Network, Station, event_of, frame_at, moved, moved_at, network_ran, station_at, stepped}, State.State, Step.step, Writing.on_link}}
use Rattle.law_streams.{specs.{Joins.{join_packet, join_to}, InTimeJoins.{IsJoin, Join, Pair, entry_of, frame_of, prunes_of}}, proofs.{Climbing.frames_stay, Deliveries.{IsNewOn, IsStepped, is_delivered, is_stepped}, Upper.{join_event, now_held}}}
use Rattle.law_converges.{specs.NextHops.{CanTakeOver, HoldsNow, NewNextHopTakesOver, SendsTo, TurnsBy}, proofs.NextHops.join_follows_next_hop}

-- a move that is an event at a router
pub moved_so : (n : Network) (m : Move) (r : ℕ) (e : Event) (st : Station) → event_of n m ≡ Some (r, e) → station_at n r ≡ Some st
    → (moved n m).1 ≡ (stepped n r e st).1
unfolding moved moved_at
moved_so n m r e st is there = rw is (rw there refl)

module _ (x : Join) (g : ℕ) (c : Pair) (n : Network) (m : Move) (isg : IsJoin x g) (f : TurnsBy x g c n m) where
  abbrev s : State
  s = (f.station).state

  abbrev after : Network
  after = (moved n m).1

  sends : SendsTo x (step s f.event).state g c.hop (step s f.event).emissions
  sends = join_follows_next_hop x s f.event f.accepted g c.hop f.taken f.timeless f.turns

  steps : IsStepped n c.lower f.station f.event after
  steps =
      subst (λ (y : Network). IsStepped n c.lower f.station f.event y) (sym (moved_so n m c.lower f.event f.station f.is f.there))
      (is_stepped n c.lower f.station f.event f.there)

  abbrev pruned : List ℕ
  pruned = (sends).pruned

  abbrev text : List ℕ
  text = join_packet c.from (c.hop).address.bits g (entry_of x) (prunes_of pruned)

  is_sent : Contains (step s f.event).emissions (on_link (c.hop).iface.number text)
  unfolding join_to
  is_sent =
      subst (λ (a : ℕ). Contains (step s f.event).emissions
      (on_link (c.hop).iface.number (join_packet a (c.hop).address.bits g (entry_of x) (prunes_of pruned)))) f.own (sends).is_sent

  new : IsNewOn n after c.link text
  new = (steps).sent (c.hop).iface.number c.link text f.linked is_sent

  abbrev number : ℕ
  number = ((new).on).number

  module _ (waits : List Move) (draw : ℕ) (st : Station) (at : station_at (network_ran after waits).1 c.upper ≡ Some st)
      (can : CanTakeOver x g c pruned st) where
    abbrev later : Network
    later = (network_ran after waits).1

    framed : frame_at later number ≡ Some (frame_of x g c pruned)
    framed = frames_stay after waits number _ ((new).on).is

    abbrev e : Event
    e = join_event x g isg st.state c.from (c.hop).address.bits c.down draw pruned (can.listens).rp_known (can.listens).hears
        (can.listens).own can.writable

    taken : IsStepped later c.upper st e (moved later (Deliver c.upper c.down number draw)).1
    taken = is_delivered later c.upper st c.down number draw c.link text at (can.listens).linked framed

    holds_now : HoldsNow x g c st (moved later (Deliver c.upper c.down number draw)).1
    holds_now = record {
      state = (step st.state e).state;
      there = (taken).here;
      holds = now_held x g isg st.state c.from (c.hop).address.bits c.down draw pruned (can.listens).rp_known (can.listens).hears
          (can.listens).own can.writable can.room;
    }

pub new_next_hop_takes_over : NewNextHopTakesOver
new_next_hop_takes_over x g c n m isg f = record {
  pruned = pruned x g c n m isg f;
  number = number x g c n m isg f;
  later = (new x g c n m isg f).later;
  framed = ((new x g c n m isg f).on).is;
  takes = λ waits draw st at can. holds_now x g c n m isg f waits draw st at can;
}
