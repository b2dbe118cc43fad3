-- A Hello on a link: its bytes, what is read of them, and what it leaves (RFC 7761, 4.3.1 and 4.3.2).
use Rattle.std.{specs.Prelude.{List, Ok, Some, false, true, ℕ, ◌*◌, ◌+◌, ◌<◌, ◌==◌, ◌^◌, ◌%◌, ◌≡◌}}
use Rattle.pim_ip.{specs.{declared.addr.Addr.Addr, Addr.addr, Ipv4.{all_pim_routers, is_unicast, pim_packet_text}}}
use Rattle.pim_types.{specs.declared.{config.IfaceId.IfaceId, event.{Event.Event, EventKind.EventKind}}}
use Rattle.pim_wire.{specs.{Hellos.{hello_holdtime, hello_text}, declared.hello.Hello.Hello as HelloValue}}
use Rattle.pim_model.{specs.{declared.accepted.Accepted.Accepted, Cause.done_as, Hellos.hello_holdtime_of, Judging.judged, State.{Addressing, State, address_among, iface_count, is_own, is_up, value_among}, Step.step}}
use Rattle.law_streams.{specs.{Copies.happens, Neighbours.HoldsNeighbour}}

-- the bytes of a Hello of an interface
abbrev pub hello_of : Addressing → ℕ → ℕ → List ℕ
hello_of cs i generation =
    pim_packet_text 1 (address_among cs i) all_pim_routers
    (hello_text (value_among (λ c. c.propagation_delay) cs i) (value_among (λ c. c.override_interval) cs i)
    (value_among (λ c. c.priority) cs i) generation)

-- the value of such a Hello, as it is read: its generation ID is a word
abbrev pub hello_value : Addressing → ℕ → ℕ → HelloValue
hello_value cs i generation = record {
  holdtime = Some hello_holdtime;
  lan_delay = Some (record {
    can_track = false;
    propagation_delay = value_among (λ c. c.propagation_delay) cs i;
    override_interval = value_among (λ c. c.override_interval) cs i;
  });
  priority = Some (value_among (λ c. c.priority) cs i);
  generation = Some (generation % 2 ^ 32);
}

-- A Hello of an interface can be read: its address is a host's, and its numbers fit, as a configuration asks.
pub record IsReadable (cs : Addressing) (i : ℕ) : Type 0 where
  pub from_host : is_unicast (address_among cs i) ≡ true
  pub delay_fits : value_among (λ c. c.propagation_delay) cs i < 2 ^ 15
  pub interval_fits : value_among (λ c. c.override_interval) cs i < 2 ^ 16
  pub priority_fits : value_among (λ c. c.priority) cs i < 2 ^ 32

-- the router listens to an address on an interface, which isn't its own
pub record Listens (s : State) (i address : ℕ) : Type 0 where
  pub configured : i < iface_count s
  pub up : is_up s i ≡ true
  pub other : is_own s address ≡ false

-- The bytes of a Hello are read as exactly that Hello by each router that listens.
abbrev pub HelloIsRead : Type 0
HelloIsRead = (s : State) (i j generation : ℕ) (cs : Addressing) → Listens s i (address_among cs j)
    → IsReadable cs j
    → judged s (EventKind.Frame (record { number = i }) (hello_of cs j generation))
    ≡ Ok (Accepted.Hello (record { number = i }) (addr (address_among cs j)) (hello_value cs j generation))

-- After a Hello the router knows its sender until the holdtime has expired.
abbrev pub HelloIsTaken : Type 0
HelloIsTaken = (s : State) (e : Event) (i : IfaceId) (from : Addr) (h : HelloValue)
    → done_as (happens s e) ≡ Some (Accepted.Hello i from h) → (hello_holdtime_of h == 0) ≡ false
    → HoldsNeighbour (step s e).state i.number from.bits (s.present + 1000 * hello_holdtime_of h)
