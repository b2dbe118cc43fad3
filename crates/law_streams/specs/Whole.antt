-- The whole way: from a request at one end to a packet that comes to the other end, and back to the requester.
use Rattle.std.{specs.{List.AllByRecursion, Prelude.{List, [], false, length, ℕ, ◌+◌, ◌<◌, ◌∷◌, ◌≡◌}}}
use Rattle.pim_types.{specs.declared.event.Event.Event}
use Rattle.pim_model.{specs.{Network.{At, Move, Network, moved, network_ran}, Sets.{assert_source, is_loser}}}
use Rattle.law_streams.{specs.{Flows.IsFlowed, Roots.IsBrought, HostsServed.{Asks, CanCarry, carriers}, Ways.{AreApart, AreDeliveries, HasTaken, IsGroup, IsWay, Place, StandIn, state_of, up_address}}}

-- The last router of a way, at which the packets come.
abbrev pub root_of : Place → List Place → Place
root_of q [] = q
root_of q (r ∷ rs) = root_of r rs

-- After the request and deliveries with nothing in between, the last router holds the Join. Each packet of (S,G) that
-- comes to it directly after that, with a TTL that is enough, is brought to the host's link by deliveries of the copies
-- that it makes.
pub record IsServedFrom (n : Network) (g rp src link : ℕ) (p q : Place) (e : Event) (qs : List Place) : Type 0 where
  pub joins : List Move
  pub deliveries : AreDeliveries joins
  pub one_each : length joins ≡ length (q ∷ qs)
  pub taken : AllByRecursion (HasTaken (network_ran n (At p.router e ∷ joins)).1 g rp) (q ∷ qs)
  pub root : HasTaken (network_ran n (At p.router e ∷ joins)).1 g rp (root_of q qs)
  pub served : (d : Event) (payload : List ℕ) (lives : ℕ) → 0 < lives
      → IsBrought (root).state d g src (root_of q qs).down payload (lives + length (p ∷ carriers (q ∷ qs)))
      → IsFlowed (moved (network_ran n (At p.router e ∷ joins)).1 (At (root_of q qs).router d)).1 g src link payload lives
      (p ∷ carriers (q ∷ qs))

-- Each packet is served over a way of one or more routers beyond the one that was requested, of which none is there
-- twice.
abbrev pub EachPacketIsServed : Type 0
EachPacketIsServed = (n : Network) (g rp src link : ℕ) (p q : Place) (e : Event) (qs : List Place)
    → IsGroup g rp → Asks g rp src link p e
    → IsWay g rp (up_address p) (p.next).address.bits p.next_link (q ∷ qs)
    → AllByRecursion (CanCarry src) (carriers (q ∷ qs))
    → is_loser (assert_source (state_of (root_of q qs)) g src (root_of q qs).down) ≡ false
    → StandIn n (p ∷ q ∷ qs) → AreApart (p ∷ q ∷ qs)
    → IsServedFrom n g rp src link p q e qs
