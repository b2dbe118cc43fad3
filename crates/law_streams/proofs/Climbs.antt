-- A Join(*,G) climbs a way.
use Rattle.std.{proofs.{Common.{◌≡◌, ◌∙◌, ℕ, suc, ◌==◌, false, List, [], ◌∷◌, Some, refl, ap, arith}, lemmas.Grind.common_steps}}
use Rattle.pim_wire.{specs.declared.join_prune.EntryKind.EntryKind}
use Rattle.pim_model.{specs.{Messages.entry, Network.{Deliver, Move, Network, frame_at, moved, network_ran, station_at}, Step.step}}
use Rattle.law_streams.{specs.{Joins.join_packet, Ways.{AreApart, CanGoOn, CanTake, HasTaken, IsClimbed, IsGroup, IsNotAmong, IsOnLink, IsWay, JoinClimbs, Place, StandIn, state_of, up_address}}, proofs.{Deliveries.{IsStepped, is_delivered}, Passes.{goes_on_with, join_event, sends, takes}}}

pub swapped : (a b : ℕ) → (a == b) ≡ false → (b == a) ≡ false
swapped a b e = grind (arith, common_steps, e)

-- who isn't the router stands as before
pub still_stand : (n m : Network) (r : ℕ) → ((q : ℕ) → (r == q) ≡ false → station_at m q ≡ station_at n q) → (ps : List Place)
    → IsNotAmong r ps → StandIn n ps → StandIn m ps
still_stand n m r beside [] off stand = tt
still_stand n m r beside (p ∷ ps) off stand =
    (beside p.router (swapped p.router r off.0) ∙ stand.0, still_stand n m r beside ps off.1 stand.1)

module _ (g rp : ℕ) (isg : IsGroup g rp) where
  abbrev Frame : Network → ℕ → ℕ → ℕ → ℕ → Type 0
  Frame n from to link k =
      frame_at n k ≡ Some (record { link = Some link; bytes = join_packet from to g (entry EntryKind.Star rp) [] })

  module _ (from to link k : ℕ) (p : Place) (can : CanTake g rp from to link p) (n : Network)
      (at : station_at n p.router ≡ Some p.station) (there : Frame n from to link k) where
    abbrev move : Move
    move = Deliver p.router p.down k p.draw

    abbrev after : Network
    after = (moved n move).1

    stepped_so : IsStepped n p.router p.station (join_event g rp from to link p isg can) after
    stepped_so = is_delivered n p.router p.station p.down k p.draw link _ at can.on_link there

    has_taken : (m : Network) → station_at m p.router ≡ station_at after p.router → HasTaken m g rp p
    has_taken m same = record {
      state = (step (state_of p) (join_event g rp from to link p isg can)).state;
      stands = same ∙ (stepped_so).here;
      takes = takes g rp from to link p isg can;
      goes_on = goes_on_with g rp from to link p isg can;
    }

    goes_on : CanGoOn g p → IsOnLink after p.next_link (join_packet (up_address p) (p.next).address.bits g (entry EntryKind.Star rp) [])
    goes_on on =
        ((stepped_so).sent (p.next).iface.number p.next_link _ on.linked (sends g rp from to link p isg can on)).on

  climb : (from to link k : ℕ) (ps : List Place) (n : Network) → IsWay g rp from to link ps → StandIn n ps
      → AreApart ps → Frame n from to link k → IsClimbed n g rp ps
  unfolding network_ran
  climb from to link k [] n way stand apart there = record { moves = []; deliveries = tt; one_each = refl; taken = tt; others = λ r off. refl }
  climb from to link k (p ∷ []) n way stand apart there =
      let m : Network = after from to link k p way n stand.0 there in
      let did : IsStepped n p.router p.station _ m = stepped_so from to link k p way n stand.0 there in
      record {
        moves = move from to link k p way n stand.0 there ∷ [];
        deliveries = (tt, tt);
        one_each = refl;
        taken = (has_taken from to link k p way n stand.0 there m refl, tt);
        others = λ r off. did.beside r off.0;
      }
  climb from to link k (p ∷ q ∷ ps) n way stand apart there =
      let can : CanTake g rp from to link p = way.0 in
      let on : CanGoOn g p = way.1 in
      let m : Network = after from to link k p can n stand.0 there in
      let did : IsStepped n p.router p.station _ m = stepped_so from to link k p can n stand.0 there in
      let frame : IsOnLink m p.next_link _ = goes_on from to link k p can n stand.0 there on in
      let rest : IsClimbed m g rp (q ∷ ps) =
      climb (up_address p) (p.next).address.bits p.next_link frame.number (q ∷ ps) m way.2
      (still_stand n m p.router did.beside (q ∷ ps) apart.0 stand.1) apart.1 frame.is in
      record {
        moves = move from to link k p can n stand.0 there ∷ rest.moves;
        deliveries = (tt, rest.deliveries);
        one_each = ap suc rest.one_each;
        taken = (has_taken from to link k p can n stand.0 there _ (rest.others p.router apart.0), rest.taken);
        others = λ r off. rest.others r off.1 ∙ did.beside r off.0;
      }

pub join_climbs : JoinClimbs
join_climbs n g rp from to link k ps isg way stand apart there = climb g rp isg from to link k ps n way stand apart there
