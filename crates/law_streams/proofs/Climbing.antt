-- A Join climbs a way, whatever happens between its deliveries.
use Rattle.std.{proofs.Common.{◌≡◌, ℕ, List, [], ◌∷◌, Option, Some, None, refl, arith}}
use Rattle.pim_types.{specs.declared.event.Event.Event}
use Rattle.pim_wire.{specs.declared.join_prune.EntryKind.EntryKind}
use Rattle.pim_model.{specs.{Messages.entry, Network.{Move, Network, Sent, Station, event_of, frame_at, moved, moved_at, network_ran, station_at}, Step.step}}
use Rattle.law_streams.{specs.{Joins.join_packet, Ways.{CanGoOn, CanTake, HasTaken, IsGroup, IsOnLink, Place, state_of, up_address}, Climbing.{FramesStay, IsClimbedOver, IsWayOver, JoinClimbsOver, Stop, delivered, join_frame}}, proofs.{Deliveries.{IsStepped, is_delivered, is_stepped}, Passes.{goes_on_with, join_event, sends, takes}}}

-- ---- frames stay

module _ (n : Network) (k : ℕ) (f : Sent) (there : frame_at n k ≡ Some f) where
  by_event : (e : ℕ × Event) (o : Option Station) → station_at n e.0 ≡ o → frame_at (moved_at n e).1 k ≡ Some f
  unfolding moved_at
  by_event e None is = rw is there
  by_event e (Some st) is = rw is ((is_stepped n e.0 st e.1 is).kept k f there)

  by_move : (m : Move) (o : Option (ℕ × Event)) → event_of n m ≡ o → frame_at (moved n m).1 k ≡ Some f
  unfolding moved
  by_move m o is = grind (arith, by_event)

pub frames_stay : FramesStay
unfolding network_ran
frames_stay n [] k f there = there
frames_stay n (m ∷ ms) k f there = frames_stay (moved n m).1 ms k f (by_move n k f there m (event_of n m) refl)

-- ---- one router

module _ (g rp : ℕ) (isg : IsGroup g rp) where
  module _ (from to link k : ℕ) (p : Place) (can : CanTake g rp from to link p) (n : Network)
      (at : station_at n p.router ≡ Some p.station) (there : frame_at n k ≡ Some (join_frame g rp from to link)) where
    pub stepped_so : IsStepped n p.router p.station (join_event g rp from to link p isg can) (delivered n p k)
    stepped_so = is_delivered n p.router p.station p.down k p.draw link _ at can.on_link there

    has_taken : HasTaken (delivered n p k) g rp p
    has_taken = record {
      state = (step (state_of p) (join_event g rp from to link p isg can)).state;
      stands = (stepped_so).here;
      takes = takes g rp from to link p isg can;
      goes_on = goes_on_with g rp from to link p isg can;
    }

    goes_on : CanGoOn g p
        → IsOnLink (delivered n p k) p.next_link (join_packet (up_address p) (p.next).address.bits g (entry EntryKind.Star rp) [])
    goes_on on =
        ((stepped_so).sent (p.next).iface.number p.next_link _ on.linked (sends g rp from to link p isg can on)).on

  climb : (from to link k : ℕ) (ws : List Stop) (n : Network) → IsWayOver g rp from to link n ws
      → frame_at n k ≡ Some (join_frame g rp from to link) → IsClimbedOver g rp from to link n ws
  climb from to link k [] n way there = tt
  climb from to link k (w ∷ []) n way there =
      let still : frame_at (network_ran n w.waits).1 k ≡ Some (join_frame g rp from to link) =
      frames_stay n w.waits k _ there in
      record {
        number = k;
        is = still;
        taken = has_taken from to link k w.place way.1 (network_ran n w.waits).1 way.0 still;
        rest = tt;
      }
  climb from to link k (w ∷ v ∷ ws) n way there =
      let m : Network = (network_ran n w.waits).1 in
      let still : frame_at m k ≡ Some (join_frame g rp from to link) = frames_stay n w.waits k _ there in
      let frame : IsOnLink (delivered m w.place k) (w.place).next_link _ =
      goes_on from to link k w.place way.1 m way.0 still way.2 in
      record {
        number = k;
        is = still;
        taken = has_taken from to link k w.place way.1 m way.0 still;
        rest =
            climb (up_address w.place) ((w.place).next).address.bits (w.place).next_link frame.number (v ∷ ws)
            (delivered m w.place k) (way.3 k still) frame.is;
      }

pub join_climbs_over : JoinClimbsOver
join_climbs_over n g rp from to link k ws isg way there = climb g rp isg from to link k ws n way there
