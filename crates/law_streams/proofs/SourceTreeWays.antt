-- The first packet of a source comes down a way that was joined, and turns each router of it.
use Rattle.std.{proofs.Common.{◌≡◌, ◌∙◌, ℕ, ◌+◌, ◌<◌, ◌==◌, false, true, List, [], ◌∷◌, ◌++◌, length, Some, refl, sym, ap, subst, arith, length-append}, specs.List.Contains}
use Rattle.pim_ip.{specs.Ipv4.{copy_text, is_link_local, is_multicast}}
use Rattle.pim_types.{specs.declared.event.Event.Event}
use Rattle.pim_model.{specs.{Network.{Move, Network, moved, network_ran, station_at}, Step.step, Writing.on_link}}
use Rattle.law_settled.{proofs.ListLaws.each_append}
use Rattle.law_streams.{specs.{Flows.{IsCarried, top_link}, Ways.{AreApart, IsDelivery, IsNotAmong, Place, StandIn, state_of, up_iface}, Passing.{Passes, Receiver, Tree}, Turning.{AreTurning, CanTurn, HasTurned, HaveTurned, IsTurned, SourceTreeBegins, TurnsAt, TurnsBy}}, proofs.{Climbs.swapped, Deliveries.IsStepped, Forwards.from_copies, Carries.{carried_on, delivery, did_so, is_judged, lives_on, move, of_packet, ran_more}, Turning.packet_sets_spt_bit}}

-- who stands as before has turned as before
still_turned : (n m : Network) (r g src link : ℕ) → ((q : ℕ) → (r == q) ≡ false → station_at m q ≡ station_at n q)
    → (ps : List Place) → IsNotAmong r ps → HaveTurned n g src link ps → HaveTurned m g src link ps
still_turned n m r g src link beside [] off f = tt
still_turned n m r g src link beside (p ∷ ps) off f = (
  record {
    state = (f.0).state;
    stands = beside p.router (swapped p.router r off.0) ∙ (f.0).stands;
    passes = (f.0).passes;
  },
  still_turned n m r g src p.next_link beside ps off.1 f.1,
)

module _ (g src : ℕ) (payload : List ℕ) (group : is_multicast g ≡ true) (far : is_link_local g ≡ false) where
  -- at one router
  module _ (n : Network) (link lives : ℕ) (some : 0 < lives) (p : Place) (f : TurnsAt g src link p)
      (at : station_at n p.router ≡ Some p.station) (c : IsCarried n g src p.next_link payload (lives + 1)) where
    abbrev event : Event
    event = delivery g src payload n link lives p at c

    to_packet : (P : ℕ → ℕ → Type 0) → P (c.packet).destination (c.packet).source → P g src
    to_packet P x = subst (λ (a : ℕ). P g a) c.source (subst (λ (d : ℕ). P d (c.packet).source) c.group x)

    turn : TurnsBy (state_of p) event c.packet (up_iface p) p.down
    turn =
        packet_sets_spt_bit (state_of p) event c.packet (up_iface p) p.down
        (of_packet g src payload n link lives p at c (λ d a. CanTurn (state_of p) d a (up_iface p) p.down) f.turns)
        (record {
          done =
              is_judged g src payload n link lives p at c group far (f.turns).configured (f.turns).is_up (f.turns).foreign
              f.room;
          lives = lives_on g src payload n link lives p at c some;
        })

    leaves : Contains (step (state_of p) event).emissions (on_link p.down (copy_text c.packet))
    leaves = from_copies (state_of p) event (on_link p.down (copy_text c.packet)) (turn).leaves

    passed_on : IsCarried (moved n (move g src payload n link lives p at c)).1 g src link payload lives
    passed_on = carried_on g src payload n link lives p at c f.up_linked f.down_linked leaves

    stepped_so : IsStepped n p.router p.station event (moved n (move g src payload n link lives p at c)).1
    stepped_so = did_so g src payload n link lives p at c f.up_linked

    has_turned : HasTurned (moved n (move g src payload n link lives p at c)).1 g src link p
    has_turned = record {
      state = (step (state_of p) event).state;
      stands = (stepped_so).here;
      passes = record {
        passes =
            to_packet (λ d a. Passes Tree.Source Receiver.SourceRouter (step (state_of p) event).state d a (up_iface p) p.down) (turn).passes;
        down_linked = f.down_linked;
        up_linked = f.up_linked;
      };
    }

  flow : (link lives : ℕ) (ps : List Place) (n : Network) → 0 < lives → AreTurning g src link ps → StandIn n ps
      → AreApart ps → IsCarried n g src (top_link link ps) payload (lives + length ps)
      → IsTurned n g src link payload lives ps
  unfolding network_ran
  flow link lives [] n some way stand apart c = record {
    moves = [];
    deliveries = tt;
    one_each = refl;
    arrived = subst (λ (l : ℕ). IsCarried n g src link payload l) (omega arith) c;
    turned = tt;
    others = λ r off. refl;
  }
  flow link lives (p ∷ ps) n some way stand apart c =
      let rest : IsTurned n g src p.next_link payload (lives + 1) ps =
      flow p.next_link (lives + 1) ps n (omega arith) way.1 stand.1 apart.1
      (subst (λ (l : ℕ). IsCarried n g src (top_link p.next_link ps) payload l) (omega arith) c) in
      let m : Network = (network_ran n rest.moves).1 in
      let at : station_at m p.router ≡ Some p.station = rest.others p.router apart.0 ∙ stand.0 in
      let last : Move = move g src payload m link lives p at rest.arrived in
      let did : IsStepped m p.router p.station _ (moved m last).1 = stepped_so m link lives some p way.0 at rest.arrived in
      let is : (network_ran n (rest.moves ++ last ∷ [])).1 ≡ (moved m last).1 = ran_more n rest.moves last in
      record {
        moves = rest.moves ++ last ∷ [];
        deliveries = each_append IsDelivery rest.moves (last ∷ []) rest.deliveries (tt, tt);
        one_each =
            let long = length-append rest.moves (last ∷ []) in
            let same = rest.one_each in omega (arith, long, same);
        arrived =
            subst (λ (x : Network). IsCarried x g src link payload lives) (sym is)
            (passed_on m link lives some p way.0 at rest.arrived);
        turned =
            subst (λ (x : Network). HaveTurned x g src link (p ∷ ps)) (sym is) (
              has_turned m link lives some p way.0 at rest.arrived,
              still_turned m (moved m last).1 p.router g src p.next_link did.beside ps apart.0 rest.turned,
            );
        others = λ r off.
            ap (λ (x : Network). station_at x r) is ∙ (did.beside r off.0 ∙ rest.others r off.1);
      }

pub source_tree_begins : SourceTreeBegins
source_tree_begins n g src link lives payload ps group far some way stand apart c =
    flow g src payload group far link lives ps n some way stand apart c
