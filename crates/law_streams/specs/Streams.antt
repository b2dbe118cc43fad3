-- A stream is served across a network while nothing ends it.
use Rattle.std.{specs.Prelude.{List, Some, [], false, length, slice_get, true, ℕ, ◌+◌, ◌<◌, ◌∷◌, ◌≡◌}}
use Rattle.pim_ip.{specs.Ipv4.{is_link_local, is_multicast}}
use Rattle.pim_model.{specs.{Network.{Move, Network, network_ran}, Step.state_after}}
use Rattle.law_streams.{specs.{Networks.events_in, Served.IsMember, Flows.{IsCarried, IsFlowed, PassesOn, top_link}, Ways.{AreApart, Place, StandIn, state_of, up_iface}, HostsServed.became, Passing.{NoneEndsPassing, Passes, Receiver, Tree}}}
use Rattle.law_settled.{specs.Ready.IsSettled}

-- A router of a way passes the stream, from the link to its next hop to a link.
pub record PassesAt (tree : Tree) (by : Receiver) (g src link : ℕ) (p : Place) : Type 0 where
  pub passes : Passes tree by (state_of p) g src (up_iface p) p.down
  pub down_linked : slice_get (p.station).links p.down ≡ Some link
  pub up_linked : slice_get (p.station).links (up_iface p) ≡ Some p.next_link

-- Each router of a way passes the stream, from the link of the requester up to that of the last router's next hop; on
-- which tree, and for whom, is given for each.
abbrev pub IsStreamed : (ℕ → Tree) → (ℕ → Receiver) → (g src link : ℕ) → List Place → Type 0
IsStreamed tree by g src link [] = Unit {0}
IsStreamed tree by g src link (p ∷ ps) =
    PassesAt (tree p.router) (by p.router) g src link p × IsStreamed tree by g src p.next_link ps

-- Of the events that come to a router of the way in the moves, none ends the stream there.
abbrev pub NoneEndsStream : (ℕ → Tree) → (ℕ → Receiver) → (g src : ℕ) → Network → List Move → List Place → Type 0
NoneEndsStream tree by g src n ms [] = Unit {0}
NoneEndsStream tree by g src n ms (p ∷ ps) =
    NoneEndsPassing (tree p.router) (by p.router) (state_of p) (events_in p.router n ms) g src (up_iface p) p.down
    × NoneEndsStream tree by g src n ms ps

-- A router of the way in its state after some moves.
abbrev pub later_place : Network → List Move → Place → Place
later_place n ms p = became p (state_after (state_of p) (events_in p.router n ms))

-- After any moves that end the stream at no router of the way, each packet of the source on the link above comes down
-- to the requester, by one delivery for each router.
abbrev pub StreamIsServed : Type 0
StreamIsServed = (tree : ℕ → Tree) (by : ℕ → Receiver) (n : Network) (ms : List Move) (g src link lives : ℕ)
    (payload : List ℕ) (ps : List Place)
    → is_multicast g ≡ true → is_link_local g ≡ false → 0 < lives
    → IsStreamed tree by g src link ps → StandIn n ps → AreApart ps → NoneEndsStream tree by g src n ms ps
    → IsCarried (network_ran n ms).1 g src (top_link link ps) payload (lives + length ps)
    → IsFlowed (network_ran n ms).1 g src link payload lives ps

-- A router that serves a member, as after `HostAsks`, passes the stream.
abbrev pub MemberBeginsStream : Type 0
MemberBeginsStream = (g src link : ℕ) (p : Place) → IsSettled (state_of p) → PassesOn g src link p
    → IsMember (state_of p) g src p.down → PassesAt Tree.Shared Receiver.Host g src link p
