-- The whole way.
use Rattle.std.{proofs.Common.{◌≡◌, ◌∙◌, ℕ, ◌+◌, ◌<◌, ◌==◌, false, List, [], ◌∷◌, length, Some, refl, sym, ap, subst, arith, slice_get}, specs.List.AllByRecursion}
use Rattle.pim_types.{specs.declared.event.Event.Event}
use Rattle.pim_model.{specs.{Network.{At, Network, moved, network_ran, station_at}, Sets.{assert_source, is_loser}, State.{Addressing, iface_count}}}
use Rattle.law_streams.{specs.{Flows.IsFlowed, Roots.IsBrought, HostsServed.{IsServedBy, carriers, root_link}, Ways.{AreApart, HasTaken, IsNotAmong, IsWay, Place, state_of, up_address}, Whole.{EachPacketIsServed, root_of}}, proofs.{Deliveries.{IsStepped, is_moved}, Roots.root_sends, Serves.who_asks_is_served}}

module _ (g rp src : ℕ) where
  last_taken : (n : Network) (q : Place) (qs : List Place) → AllByRecursion (HasTaken n g rp) (q ∷ qs) → HasTaken n g rp (root_of q qs)
  last_taken n q [] f = f.0
  last_taken n q (r ∷ rs) f = last_taken n r rs f.1

  -- what the last can do
  record AtRoot (link : ℕ) (p : Place) : Type 0 where
    within : p.down < iface_count (state_of p)
    linked : slice_get (p.station).links p.down ≡ Some link

  at_root : (from to link : ℕ) (q : Place) (qs : List Place) → IsWay g rp from to link (q ∷ qs)
      → AtRoot (root_link link (q ∷ qs)) (root_of q qs)
  at_root from to link q [] way = record { within = (way.hears).configured; linked = way.on_link }
  at_root from to link q (r ∷ rs) way =
      at_root (up_address q) (q.next).address.bits q.next_link r rs way.2

  -- it is none of those below
  root_apart : (r : ℕ) (q : Place) (qs : List Place) → IsNotAmong r (q ∷ qs) → ((root_of q qs).router == r) ≡ false
  root_apart r q [] f = f.0
  root_apart r q (x ∷ xs) f = root_apart r x xs f.1

  module _ (n m : Network) (root : ℕ) (beside : (r : ℕ) → (root == r) ≡ false → station_at m r ≡ station_at n r) where
    still_there : (q : Place) (qs : List Place) → root ≡ (root_of q qs).router → AreApart (q ∷ qs)
        → AllByRecursion (λ (x : Place). station_at m x.router ≡ station_at n x.router) (carriers (q ∷ qs))
    still_there q [] is apart = tt
    still_there q (x ∷ xs) is apart = (
      beside q.router (ap (λ (y : ℕ). y == q.router) is ∙ root_apart q.router x xs apart.0),
      still_there x xs is apart.1,
    )

  module _ (n : Network) (link : ℕ) (p q : Place) (e : Event) (qs : List Place) (by : IsServedBy n g rp src link p e (q ∷ qs))
      (way : IsWay g rp (up_address p) (p.next).address.bits p.next_link (q ∷ qs)) (apart : AreApart (p ∷ q ∷ qs))
      (unlost : is_loser (assert_source (state_of (root_of q qs)) g src (root_of q qs).down) ≡ false) where
    abbrev joined : Network
    joined = (network_ran n (At p.router e ∷ by.joins)).1

    abbrev last : Place
    last = root_of q qs

    root : HasTaken joined g rp last
    root = last_taken joined q qs by.taken

    served : (d : Event) (payload : List ℕ) (lives : ℕ) → 0 < lives
        → IsBrought (root).state d g src last.down payload (lives + length (p ∷ carriers (q ∷ qs)))
        → IsFlowed (moved joined (At last.router d)).1 g src link payload lives (p ∷ carriers (q ∷ qs))
    served d payload lives some b =
        let m : Network = (moved joined (At last.router d)).1 in
        let did : IsStepped joined last.router (record last.station { state = (root).state }) d m =
        is_moved joined last.router (record last.station { state = (root).state }) d (root).stands in
        let at : AtRoot (root_link p.next_link (q ∷ qs)) last =
        at_root (up_address p) (p.next).address.bits p.next_link q qs way in
        by.served m
        (did.beside p.router (root_apart p.router q qs apart.0), still_there joined m last.router did.beside q qs refl apart.1)
        payload lives some
        (root_sends joined g rp src (root_link p.next_link (q ∷ qs)) (lives + length (p ∷ carriers (q ∷ qs))) payload last d root
        (subst (λ (cs : Addressing). last.down < length cs.interfaces) (sym ((root).goes_on).configured) at.within)
        (((root).goes_on).unlost src last.down unlost) at.linked (omega arith) b)

pub each_packet_is_served : EachPacketIsServed
each_packet_is_served n g rp src link p q e qs isg asks way carry unlost stand apart =
    let by : IsServedBy n g rp src link p e (q ∷ qs) = who_asks_is_served n g rp src link p e (q ∷ qs) isg asks way carry stand apart in
    record {
      joins = by.joins;
      deliveries = by.deliveries;
      one_each = by.one_each;
      taken = by.taken;
      root = root g rp src n link p q e qs by way apart unlost;
      served = served g rp src n link p q e qs by way apart unlost;
    }
