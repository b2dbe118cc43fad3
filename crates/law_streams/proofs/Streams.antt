-- Each packet of a stream comes down a way, whatever happened there meanwhile.
use Rattle.std.{proofs.Common.{◌≡◌, ◌∙◌, ℕ, suc, ◌+◌, ◌<◌, true, false, List, [], ◌∷◌, length, map, Some, refl, sym, ap, subst, arith}}
use Rattle.pim_ip.{specs.Ipv4.{copy_text, is_link_local, is_multicast}}
use Rattle.pim_types.{specs.declared.event.Event.Event}
use Rattle.pim_model.{specs.{Network.{Move, Network, network_ran, station_at}, Writing.on_link}}
use Rattle.law_streams.{specs.{Networks.events_in, Flows.{IsCarried, IsFlowed, IsLaterFrame, top_link}, Ways.{AreApart, IsNotAmong, Place, StandIn, state_of, up_iface}, Passing.{Passes, Receiver, Tree}, Streams.{IsStreamed, MemberBeginsStream, NoneEndsStream, PassesAt, StreamIsServed, later_place}}, proofs.{Networks.runs_alone, Forwards.from_copies, Carries.{IsPassedOn, delivery, flow, is_judged, is_passed_on, lives_on, of_packet}, Passing.run_keeps_passing, Room.has_room, Serving.passing_serves}}

module _ (g src : ℕ) (payload : List ℕ) (group : is_multicast g ≡ true) (far : is_link_local g ≡ false) where
  passes : (n : Network) (link lives : ℕ) (tree : Tree) (by : Receiver) (p : Place) → 0 < lives
      → PassesAt tree by g src link p → station_at n p.router ≡ Some p.station
      → IsCarried n g src p.next_link payload (lives + 1) → IsPassedOn g src payload n link lives p
  passes n link lives tree by p some f at c =
      let event : Event = delivery g src payload n link lives p at c in
      let in_there = (f.passes).comes_in in
      is_passed_on g src payload n link lives p at c f.up_linked f.down_linked
      (from_copies (state_of p) event (on_link p.down (copy_text c.packet))
      (passing_serves tree by (state_of p) event c.packet (up_iface p) p.down
      (of_packet g src payload n link lives p at c (λ d a. Passes tree by (state_of p) d a (up_iface p) p.down) f.passes)
      (record {
        done =
            is_judged g src payload n link lives p at c group far in_there.configured in_there.is_up in_there.foreign
            (has_room tree (state_of p) g src (up_iface p) in_there.on (f.passes).room);
        lives = lives_on g src payload n link lives p at c some;
      })))

  pub streams : (tree : ℕ → Tree) (by : ℕ → Receiver) (link lives : ℕ) (ps : List Place) (n : Network) → 0 < lives
      → IsStreamed tree by g src link ps → StandIn n ps → AreApart ps
      → IsCarried n g src (top_link link ps) payload (lives + length ps)
      → IsFlowed n g src link payload lives ps
  streams tree by =
      flow g src payload (IsStreamed tree by g src) (λ link p ps way. way.1)
      (λ n link lives p ps some way. passes n link lives (tree p.router) (by p.router) p some way.0)

-- ---- the places after some moves

module _ (n : Network) (ms : List Move) where
  abbrev m : Network
  m = (network_ran n ms).1

  pub later_stand : (ps : List Place) → StandIn n ps → StandIn m (map (later_place n ms) ps)
  later_stand [] stand = tt
  later_stand (p ∷ ps) stand = ((runs_alone p.router ms n).stands p.station stand.0, later_stand ps stand.1)

  pub later_not_among : (r : ℕ) (ps : List Place) → IsNotAmong r ps → IsNotAmong r (map (later_place n ms) ps)
  later_not_among r [] off = tt
  later_not_among r (p ∷ ps) off = (off.0, later_not_among r ps off.1)

  pub later_apart : (ps : List Place) → AreApart ps → AreApart (map (later_place n ms) ps)
  later_apart [] apart = tt
  later_apart (p ∷ ps) apart = (later_not_among p.router ps apart.0, later_apart ps apart.1)

  pub later_streamed : (tree : ℕ → Tree) (by : ℕ → Receiver) (g src link : ℕ) (ps : List Place) → IsStreamed tree by g src link ps
      → NoneEndsStream tree by g src n ms ps → IsStreamed tree by g src link (map (later_place n ms) ps)
  later_streamed tree by g src link [] way none = tt
  later_streamed tree by g src link (p ∷ ps) way none = (
    record {
      passes = run_keeps_passing (tree p.router) (by p.router) (state_of p) (events_in p.router n ms) g src (up_iface p) p.down (way.0).passes none.0;
      down_linked = (way.0).down_linked;
      up_linked = (way.0).up_linked;
    },
    later_streamed tree by g src p.next_link ps way.1 none.1,
  )

  pub same_top : (link : ℕ) (ps : List Place) → top_link link (map (later_place n ms) ps) ≡ top_link link ps
  same_top link [] = refl
  same_top link (p ∷ ps) = same_top p.next_link ps

  pub same_length : (ps : List Place) → length (map (later_place n ms) ps) ≡ length ps
  same_length [] = refl
  same_length (p ∷ ps) = ap suc (same_length ps)

  same_later : (x : Network) (number : ℕ) (ps : List Place) → IsLaterFrame x number (map (later_place n ms) ps) → IsLaterFrame x number ps
  same_later x number ps f = grind arith

  pub flowed_so : (x : Network) (g src link : ℕ) (payload : List ℕ) (lives : ℕ) (ps : List Place)
      → IsFlowed x g src link payload lives (map (later_place n ms) ps) → IsFlowed x g src link payload lives ps
  flowed_so x g src link payload lives ps f = record {
    moves = f.moves;
    deliveries = f.deliveries;
    one_each = f.one_each ∙ same_length ps;
    arrived = f.arrived;
    new = same_later x (f.arrived.on_link).number ps f.new;
    grows = f.grows;
    others = λ r off. f.others r (later_not_among r ps off);
  }

pub stream_is_served : StreamIsServed
stream_is_served tree by n ms g src link lives payload ps group far some way stand apart none c =
    flowed_so n ms (network_ran n ms).1 g src link payload lives ps
    (streams g src payload group far tree by link lives (map (later_place n ms) ps) (network_ran n ms).1 some
    (later_streamed n ms tree by g src link ps way none) (later_stand n ms ps stand) (later_apart n ms ps apart)
    (subst (λ (l : ℕ). IsCarried (network_ran n ms).1 g src l payload (lives + length (map (later_place n ms) ps)))
    (sym (same_top n ms link ps))
    (subst (λ (k : ℕ). IsCarried (network_ran n ms).1 g src (top_link link ps) payload (lives + k)) (sym (same_length n ms ps)) c)))

pub member_begins_stream : MemberBeginsStream
member_begins_stream g src link p rest f m = grind arith
