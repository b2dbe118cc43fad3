-- What a next hop holds it passes on: from then on each packet of the group that comes down the tree to it leaves on the link of
-- whoever joins over it, and once (RFC 7761, 4.2).
use Rattle.std.{specs.{List.Contains, Prelude.{List, Some, false, ℕ, ◌<◌, ◌==◌, ◌≡◌}}}
use Rattle.pim_ip.{specs.Ipv4.{Packet, copy_text}}
use Rattle.pim_types.{specs.declared.event.Event.Event}
use Rattle.pim_model.{specs.{Full.source_is_full, Network.{Move, Network, Station, station_at}, Sets.{assert_source, assert_star, is_loser, prunes}, State.iface_count, Writing.on_link}}
use Rattle.law_streams.{specs.{Copies.{AreOnceEach, copies_at}, InTimeJoins.{Always, IsHeld, IsReady, Pair, Star}, Passing.{ComesIn, Tree}, Served.Came}}
use Rattle.law_converges.{specs.Past.HoldsPast}

-- the upper router of a pair is on the group's tree: the source's packets come in there on an interface, where the Joins come
-- neither the assert of the group nor that of the source is lost, nobody prunes the source, and the source has room
pub record IsOnTree (g src up : ℕ) (c : Pair) (n : Network) : Type 0 where
  pub station : Station
  pub there : station_at n c.upper ≡ Some station
  pub comes_in : ComesIn Tree.Shared station.state g src up
  pub configured : c.down < iface_count station.state
  pub group : is_loser (assert_star station.state g c.down) ≡ false
  pub source : is_loser (assert_source station.state g src c.down) ≡ false
  pub unpruned : prunes station.state g src c.down ≡ false
  pub room : source_is_full station.state g src ≡ false
  pub apart : (c.down == up) ≡ false

-- a packet with a TTL above 1 that an event brings it there leaves on the link, and no other copy of it does
pub record IsPassedOnce (g src up : ℕ) (c : Pair) (n : Network) : Type 0 where
  pub passed : (e : Event) (st : Station) (p : Packet) → station_at n c.upper ≡ Some st → p.destination ≡ g → p.source ≡ src
      → Came st.state e (record { number = up }) p → Contains (copies_at st.state e) (on_link c.down (copy_text p))
  pub once : (e : Event) (st : Station) → station_at n c.upper ≡ Some st → AreOnceEach st.state (copies_at st.state e)

-- From when the upper one holds the group it passes each packet of the source on, once.
abbrev pub HeldIsPassedOnce : Type 0
HeldIsPassedOnce = (rp g src up : ℕ) (c : Pair) (started : ℕ → ℕ) (bound : ℕ) (n : Network) (ms : List Move) → IsReady c.upper n
    → Always (IsOnTree g src up c) n ms → HoldsPast started bound (IsHeld (Star rp) g c) n ms
    → HoldsPast started bound (IsPassedOnce g src up c) n ms
