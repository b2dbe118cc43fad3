-- The last hop changes to the source's tree: where a host, or a router that joined the group, is served.
use Rattle.std.{specs.{List.Contains, Prelude.{false, true, ℕ, ◌<◌, ◌==◌, ◌≡◌}}}
use Rattle.pim_ip.{specs.Ipv4.{Packet, copy_text}}
use Rattle.pim_types.{specs.declared.event.Event.Event}
use Rattle.pim_model.{specs.{Neighbours.is_dr, Sets.is_kept_alive, State.{State, iface_count, is_own, is_up}, Step.step, Unicast.is_rpf_interface, Writing.on_link}}
use Rattle.law_streams.{specs.{Copies.copies_at, Served.Came, Passing.{GoesOut, Passes, Receiver, Tree}, Turning.may_turn}}
use Rattle.law_settled.{specs.Ready.IsSettled}

-- a host is served by the DR of its link
abbrev pub IsServing : Receiver → State → ℕ → Type 0
IsServing Receiver.Host s j = is_dr s j ≡ true
IsServing by s j = Unit {0}

-- who is on the link is served, the source's keepalive timer runs, and the packets come in on the way to the source
pub record CanChange (by : Receiver) (s : State) (g src up down : ℕ) : Type 0 where
  pub settled : IsSettled s
  pub configured : up < iface_count s
  pub is_up : is_up s up ≡ true
  pub foreign : is_own s src ≡ false
  pub way : is_rpf_interface s src up ≡ true
  pub may : may_turn s g src up ≡ true
  pub goes_out : GoesOut by s g src down
  pub serving : IsServing by s down
  pub alive : is_kept_alive s g src ≡ true
  pub on : (down == up) ≡ false

-- A packet of the source leaves on the link, and after its event the router passes the stream on the source's tree.
pub record ChangesBy (by : Receiver) (s : State) (e : Event) (p : Packet) (up down : ℕ) : Type 0 where
  pub leaves : Contains (copies_at s e) (on_link down (copy_text p))
  pub passes : Passes Tree.Source by (step s e).state p.destination p.source up down

-- The first packet on the way to its source sets SPTbit at the last hop, which serves a host or a router of the group.
abbrev pub LastHopSetsSptBit : Type 0
LastHopSetsSptBit = (by : Receiver) (s : State) (e : Event) (p : Packet) (up down : ℕ)
    → CanChange by s p.destination p.source up down → Came s e (record { number = up }) p → ChangesBy by s e p up down
