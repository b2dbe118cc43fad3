-- Whether routes lead up, and name the next hop: tests, and that where they pass it is so.
use Rattle.std.{proofs.Common.{Bool, eqb-true, false, not, true, ℕ, ◌&&◌, ◌==◌, ◌≡◌}, specs.{Cmp.{first_so, second_so}, Option.option_map_or}}
use Rattle.pim_types.{specs.declared.path.Path.Path}
use Rattle.pim_model.{specs.{Network.{Network, Station, station_at}, State.is_own, Tables.hop_at}}
use Rattle.law_streams.{specs.InTimeJoins.{IsUnlost, Join, Star, is_lost_at, way_to}}
use Rattle.law_converges.{proofs.{RpfStays.{IsOver, over_rpf}, Tested.{Found, found, off_so}}, specs.{CarriedNetwork.HopOn, CarriedWays.pair_on, RoutesToRp.{ByRoute, EndsAt, IsChosen, IsNamed, IsRouted}, RpfJoins.IsNextHop}}

-- ---- routes

-- RPF' is over the LAN of its route
pub routed_so : (x : Join) (g : ℕ) (h : HopOn) (n : Network) → IsNextHop x g (pair_on h) n → IsRouted x g h n
routed_so x g h n f = record {
  below = f.below;
  below_is = f.below_is;
  rp_below = (f.goes_over).rp_known;
  path = (way).path;
  route = (way).is;
  over = (way).over;
  above = f.above;
  above_is = f.above_is;
  rp_above = (f.listens).rp_known;
  foreign = ((f.listens).hears).other;
}
  where
    way : IsOver (way_to x (f.below).state g) (hop_at (h.lower).iface (h.upper).address)
    way = over_rpf x g (f.below).state (hop_at (h.lower).iface (h.upper).address) (f.goes_over).rpf

-- ---- whom a router joins over

module _ (x : Join) (g : ℕ) (h : HopOn) where
  -- the route names the next hop, and no assert is lost there
  abbrev pub by_route : Network → Bool
  by_route n =
      option_map_or (λ (st : Station). option_map_or (λ (p : Path). p.next_hop.bits == (h.upper).address) (way_to x st.state g) false
      && not (is_lost_at x st.state g (h.lower).iface)) (station_at n (h.lower).router) false

  pub named_so : (n : Network) → by_route n ≡ true → IsNamed x g h n
  named_so n e =
      let f : Found Station _ (station_at n (h.lower).router) = found Station _ (station_at n (h.lower).router) e in
      let p : Found Path _ (way_to x (f.it).state g) = found Path _ (way_to x (f.it).state g) (first_so _ _ f.passes) in
      record { station = f.it; there = f.is; path = p.it; route = p.is; to = eqb-true _ _ p.passes }

  pub by_route_so : (n : Network) → by_route n ≡ true → IsUnlost x g (pair_on h) n → IsChosen x g h n
  by_route_so n e u =
      let f : Found Station _ (station_at n (h.lower).router) = found Station _ (station_at n (h.lower).router) e in
      let p : Found Path _ (way_to x (f.it).state g) = found Path _ (way_to x (f.it).state g) (first_so _ _ f.passes) in
      record {
        below = f.it;
        below_is = f.is;
        chooses = ByRoute p.it p.is (eqb-true _ _ p.passes) (off_so _ (second_so _ _ f.passes));
        above = u.station;
        above_is = u.there;
        unlost_above = u.unlost;
      }

-- the RP
abbrev pub ends_at : (rp r : ℕ) → Network → Bool
ends_at rp r n = option_map_or (λ (st : Station). is_own st.state rp) (station_at n r) false

pub ends_so : (rp g r : ℕ) (n : Network) → ends_at rp r n ≡ true → EndsAt (Star rp) g r n
ends_so rp g r n e =
    let f : Found Station (λ (st : Station). is_own st.state rp) (station_at n r) = found Station (λ (st : Station). is_own st.state rp) (station_at n r) e in
    record { station = f.it; there = f.is; top = f.passes }
