-- Who asks is served.
use Rattle.std.{proofs.{Common.{◌≡◌, ◌∙◌, ℕ, suc, ◌+◌, ◌<◌, true, false, List, [], ◌∷◌, length, map, Some, refl, sym, ap, subst, eq-eqb, arith}, lemmas.Bool.both_ways}, specs.List.{AllByRecursion, Contains}}
use Rattle.pim_types.{specs.declared.{event.Event.Event, path.Hop.Hop}}
use Rattle.pim_wire.{specs.declared.join_prune.EntryKind.EntryKind}
use Rattle.pim_model.{specs.{Downstream.{accepted_prunes, is_named, pruned_keys}, Full.{distinct, needed, once_more, passes_limit, source_is_full}, Messages.entry, Neighbours.{nbr, nbr_among}, Network.{At, Network, moved, network_ran, station_at}, State.{Addressing, State, address_among}, Step.step, Tables.has_row, Unicast.{is_rpf_interface_rp, rp_route, rpf_interface_rp}, Upstream.is_pruned_with_star, Writing.on_link}}
use Rattle.law_streams.{specs.{Flows.{IsCarried, IsChannel, IsFlowed, PassesOn, top_link}, Joins.{SendsStar, join_packet, join_to}, HostsServed.{Asks, CanCarry, WhoAsksIsServed, became, carriers, root_link}, Ways.{AreApart, CanGoOn, CanTake, HasTaken, IsClimbed, IsGroup, IsNotAmong, IsOnLink, IsWay, Place, StandIn, state_of, up_address, up_iface}}, proofs.{Settings.step_configured, Within.none_passes, Climbs.{join_climbs, still_stand}, Comes.data_flows, Deliveries.{IsStepped, is_moved}, Leaves.star_join_leaves}}

-- ---- the router's way to the RP is the shared tree

pub on_the_tree : (t : State) (g : ℕ) (hop : Hop) → nbr t (rp_route t g) ≡ Some hop
    → is_rpf_interface_rp t g hop.iface.number ≡ true
unfolding nbr nbr_among rpf_interface_rp
on_the_tree t g hop e = grind (arith, eq-eqb)

-- ---- room for a source

pub has_room : (t : State) (g src : ℕ) → passes_limit t 1 ≡ false → source_is_full t g src ≡ false
unfolding source_is_full needed distinct once_more is_named
has_room t g src room = grind (arith, none_passes)

-- ---- a router that took the Join passes packets on

module _ (g rp src : ℕ) where
  passes_on : (n : Network) (from to link : ℕ) (p : Place) → CanTake g rp from to link p → CanGoOn g p → CanCarry src p
      → (h : HasTaken n g rp p) → PassesOn g src link (became p h.state)
  unfolding has_row is_named pruned_keys accepted_prunes
  passes_on n from to link p can on carry h = grind (arith, on_the_tree, has_room)

  -- ---- all but the last of a way

  carriers_apart : (r : ℕ) (ps : List Place) → IsNotAmong r ps → IsNotAmong r (carriers ps)
  carriers_apart r [] f = tt
  carriers_apart r (p ∷ []) f = tt
  carriers_apart r (p ∷ q ∷ ps) f = (f.0, carriers_apart r (q ∷ ps) f.1)

  -- they as they stand after the Join
  record Channel (m : Network) (link : ℕ) (ps : List Place) : Type 0 where
    places : List Place
    channel : IsChannel g src link places
    stand : StandIn m places
    others : (r : ℕ) → IsNotAmong r (carriers ps) → IsNotAmong r places
    apart : AreApart places
    long : length places ≡ length (carriers ps)
    top : top_link link places ≡ root_link link ps

  module _ (n m : Network) where
    abbrev StandsAlike : Place → Type 0
    StandsAlike q = station_at m q.router ≡ station_at n q.router

    channel_of : (from to link : ℕ) (ps : List Place) → IsWay g rp from to link ps
        → AllByRecursion (HasTaken n g rp) ps → AllByRecursion (CanCarry src) (carriers ps)
        → AllByRecursion StandsAlike (carriers ps) → AreApart ps → Channel m link ps
    channel_of from to link [] way taken carry same apart =
        record { places = []; channel = tt; stand = tt; others = λ r f. tt; apart = tt; long = refl; top = refl }
    channel_of from to link (p ∷ []) way taken carry same apart =
        record { places = []; channel = tt; stand = tt; others = λ r f. tt; apart = tt; long = refl; top = refl }
    channel_of from to link (p ∷ q ∷ ps) way taken carry same apart =
        let rest : Channel m p.next_link (q ∷ ps) =
        channel_of (up_address p) (p.next).address.bits p.next_link (q ∷ ps) way.2 taken.1 carry.1 same.1 apart.1 in
        let h : HasTaken n g rp p = taken.0 in
        record {
          places = became p h.state ∷ rest.places;
          channel = (passes_on n from to link p way.0 way.1 carry.0 h, rest.channel);
          stand = (same.0 ∙ h.stands, rest.stand);
          others = λ r f. (f.0, rest.others r f.1);
          apart = (rest.others p.router (carriers_apart p.router (q ∷ ps) apart.0), rest.apart);
          long = ap suc rest.long;
          top = rest.top;
        }

  -- ---- the whole way

  module _ (n : Network) (link : ℕ) (p : Place) (e : Event) (ps : List Place) (isg : IsGroup g rp)
      (asks : Asks g rp src link p e) (way : IsWay g rp (up_address p) (p.next).address.bits p.next_link ps)
      (carry : AllByRecursion (CanCarry src) (carriers ps)) (stand : StandIn n (p ∷ ps)) (apart : AreApart (p ∷ ps)) where
    abbrev s : State
    s = state_of p

    abbrev t : State
    t = (step s e).state

    abbrev first : Network
    first = (moved n (At p.router e)).1

    did : IsStepped n p.router p.station e first
    did = is_moved n p.router p.station e stand.0

    no_prunes : (ns : List ℕ) → AllByRecursion (λ other. is_pruned_with_star t g other ≡ true) ns → ns ≡ []
    no_prunes [] f = refl
    no_prunes (x ∷ xs) f = absurd (both_ways (is_pruned_with_star t g x) (asks.prunes_none x) f.0)

    sent : Contains (step s e).emissions (on_link (up_iface p) (join_packet (up_address p) (p.next).address.bits g (entry EntryKind.Star rp) []))
    unfolding join_to
    sent =
        let f : SendsStar t g rp p.next (step s e).emissions =
        star_join_leaves s e asks.accepted g rp p.next asks.done asks.timeless asks.comes in
        let alone : f.pruned ≡ [] = no_prunes f.pruned f.to_prune in
        subst (λ (cs : Addressing). Contains (step s e).emissions
        (on_link (up_iface p) (join_packet (address_among cs (up_iface p)) (p.next).address.bits g (entry EntryKind.Star rp) [])))
        (sym (step_configured s e).configured)
        (subst (λ (ns : List ℕ). Contains (step s e).emissions (join_to t p.next g (entry EntryKind.Star rp) (map (entry EntryKind.SourceRpt) ns)))
        alone f.is_sent)

    frame : IsOnLink first p.next_link (join_packet (up_address p) (p.next).address.bits g (entry EntryKind.Star rp) [])
    frame = ((did).sent (up_iface p) p.next_link _ (asks.passes_on).up_linked sent).on

    climbed : IsClimbed first g rp ps
    climbed = grind (arith, join_climbs, frame, still_stand, did)

    abbrev after : Network
    after = (network_ran first (climbed).moves).1

    module _ (m : Network) (same : AllByRecursion (λ (q : Place). station_at m q.router ≡ station_at after q.router) (p ∷ carriers ps)) where
      below : Channel m p.next_link ps
      below = grind (arith, channel_of, climbed)

      abbrev host : Place
      host = became p t

      host_stands : station_at m p.router ≡ Some host.station
      host_stands = same.0 ∙ ((climbed).others p.router apart.0 ∙ (did).here)

      served : (payload : List ℕ) (lives : ℕ) → 0 < lives
          → IsCarried m g src (root_link p.next_link ps) payload (lives + length (p ∷ carriers ps))
          → IsFlowed m g src link payload lives (p ∷ carriers ps)
      served payload lives some c =
          let places : List Place = host ∷ (below).places in
          let long : length places ≡ length (p ∷ carriers ps) = ap suc (below).long in
          let flowed : IsFlowed m g src link payload lives places =
          data_flows m g src link lives payload places isg.multicast isg.goes_far some
          (asks.passes_on, (below).channel) (host_stands, (below).stand)
          ((below).others p.router (carriers_apart p.router ps apart.0), (below).apart)
          (subst (λ (l : ℕ). IsCarried m g src l payload (lives + length places)) (sym (below).top)
          (subst (λ (l : ℕ). IsCarried m g src (root_link p.next_link ps) payload (lives + l)) (sym long) c)) in
          record {
            moves = flowed.moves;
            deliveries = flowed.deliveries;
            one_each = flowed.one_each ∙ long;
            arrived = flowed.arrived;
            new = flowed.new;
            grows = flowed.grows;
            others = λ r f. flowed.others r (f.0, (below).others r f.1);
          }

pub who_asks_is_served : WhoAsksIsServed
unfolding network_ran
who_asks_is_served n g rp src link p e ps isg asks way carry stand apart = record {
  joins = (climbed g rp src n link p e ps isg asks way carry stand apart).moves;
  deliveries = (climbed g rp src n link p e ps isg asks way carry stand apart).deliveries;
  one_each = (climbed g rp src n link p e ps isg asks way carry stand apart).one_each;
  taken = (climbed g rp src n link p e ps isg asks way carry stand apart).taken;
  served = λ m same payload lives some c. served g rp src n link p e ps isg asks way carry stand apart m same payload lives some c;
}
