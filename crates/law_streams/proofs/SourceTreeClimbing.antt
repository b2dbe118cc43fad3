-- A Join(S,G) climbs a way, whatever happens between its deliveries.
use Rattle.std.{proofs.Common.{◌≡◌, ℕ, List, [], ◌∷◌, Some}}
use Rattle.pim_wire.{specs.declared.join_prune.EntryKind.EntryKind}
use Rattle.pim_model.{specs.{Messages.entry, Network.{Network, frame_at, network_ran, station_at}, Step.step}}
use Rattle.law_streams.{specs.{Joins.join_packet, Ways.{IsOnLink, Place, state_of, up_address}, Climbing.{Stop, delivered}, SourceTreeClimbing.{CanGoOnToSource, CanTakeSource, HasTakenSource, IsSource, IsSourceClimbedOver, IsSourceWayOver, SourceJoinClimbsOver, join_source_packet}}, proofs.{Deliveries.{IsStepped, is_delivered}, Climbing.frames_stay, Joins.{join_event, sends, takes}}}

module _ (g src : ℕ) (isg : IsSource g src) where
  module _ (from to link k : ℕ) (p : Place) (can : CanTakeSource from to link p) (n : Network)
      (at : station_at n p.router ≡ Some p.station) (there : frame_at n k ≡ Some (join_source_packet g src from to link)) where
    stepped_so : IsStepped n p.router p.station (join_event g src from to link p isg can) (delivered n p k)
    stepped_so = is_delivered n p.router p.station p.down k p.draw link _ at can.on_link there

    has_taken : HasTakenSource (delivered n p k) g src p
    has_taken = record {
      state = (step (state_of p) (join_event g src from to link p isg can)).state;
      stands = (stepped_so).here;
      takes = takes g src from to link p isg can;
    }

    goes_on : CanGoOnToSource g src p → IsOnLink (delivered n p k) p.next_link
        (join_packet (up_address p) (p.next).address.bits g (entry EntryKind.Source src) [])
    goes_on on =
        ((stepped_so).sent (p.next).iface.number p.next_link _ on.linked (sends g src from to link p isg can on)).on

  climb : (from to link k : ℕ) (ws : List Stop) (n : Network) → IsSourceWayOver g src from to link n ws
      → frame_at n k ≡ Some (join_source_packet g src from to link) → IsSourceClimbedOver g src from to link n ws
  climb from to link k [] n way there = tt
  climb from to link k (w ∷ []) n way there =
      let still : frame_at (network_ran n w.waits).1 k ≡ Some (join_source_packet g src from to link) =
      frames_stay n w.waits k _ there in
      record {
        number = k;
        is = still;
        taken = has_taken from to link k w.place way.1 (network_ran n w.waits).1 way.0 still;
        rest = tt;
      }
  climb from to link k (w ∷ v ∷ ws) n way there =
      let m : Network = (network_ran n w.waits).1 in
      let still : frame_at m k ≡ Some (join_source_packet g src from to link) = frames_stay n w.waits k _ there in
      let frame : IsOnLink (delivered m w.place k) (w.place).next_link _ =
      goes_on from to link k w.place way.1 m way.0 still way.2 in
      record {
        number = k;
        is = still;
        taken = has_taken from to link k w.place way.1 m way.0 still;
        rest =
            climb (up_address w.place) ((w.place).next).address.bits (w.place).next_link frame.number (v ∷ ws)
            (delivered m w.place k) (way.3 k still) frame.is;
      }

pub source_join_climbs_over : SourceJoinClimbsOver
source_join_climbs_over n g src from to link k ws isg way there = climb g src isg from to link k ws n way there
