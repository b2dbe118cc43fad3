-- What is written reads back as its value.
use Rattle.std.{specs.Prelude.{◌≡◌, ℕ, ◌^◌, ◌<◌, ◌≤◌, Bool, IsTrue, List, [], ◌∷◌, length, Some, false, Ok, All}}
use Rattle.pim_ip.{specs.{Ipv4.{Packet, ipv4_reading, is_unicast, is_multicast, first_multicast, frame_limit}, Addr.addr}}
use Rattle.pim_wire.{specs.{declared.{view.PimView.TheVariants.{Hello, Register, RegisterStop, JoinPrune, Assert}, join_prune.Entry.Entry}, Values.{Encapsulated, Null}, Hellos.{hello_text, hello_holdtime}, Registers.{register_text, null_register_text, register_stop_text}, JoinPrunes.{join_prune_text, join_prune_holdtime}, Asserts.assert_text, Messages.pim_reading}}

abbrev pub RegisterStopReads : ℕ → ℕ → Type 0
RegisterStopReads group source =
    IsTrue (is_multicast group)
    → pim_reading (register_stop_text group source)
    ≡ Ok (RegisterStop (record { group = addr group; mask_length = 32; source = addr source }))

-- An Assert about a source below 224.0.0.0 reads back.
abbrev pub AssertReads : ℕ → ℕ → Bool → ℕ → ℕ → Type 0
AssertReads group source rpt preference metric =
    IsTrue (is_multicast group) → source < first_multicast
    → pim_reading (assert_text group source rpt preference metric)
    ≡ Ok (Assert (record {
      group = addr group;
      mask_length = 32;
      source = addr source;
      rpt = rpt;
      preference = preference;
      metric = metric;
    }))

abbrev pub NullRegisterReads : ℕ → ℕ → Type 0
NullRegisterReads source group =
    IsTrue (is_unicast source) → IsTrue (is_multicast group)
    → pim_reading (null_register_text source group) ≡ Ok (Register (Null source group))

-- A Register around a packet from a host to a group reads back, if a link can carry it.
abbrev pub RegisterReads : List ℕ → Type 0
RegisterReads inner =
    (p : Packet) → ipv4_reading inner ≡ Ok p → length inner ≤ frame_limit
    → IsTrue (is_unicast p.source) → IsTrue (is_multicast p.destination)
    → pim_reading (register_text inner) ≡ Ok (Register (Encapsulated p))

abbrev pub HelloReads : ℕ → ℕ → ℕ → ℕ → Type 0
HelloReads propagation_delay override_interval priority generation =
    propagation_delay < 2 ^ 15
    → pim_reading (hello_text propagation_delay override_interval priority generation)
    ≡ Ok (Hello (record {
      holdtime = Some hello_holdtime;
      lan_delay = Some (record { can_track = false; propagation_delay = propagation_delay; override_interval = override_interval });
      priority = Some priority;
      generation = Some generation;
    }))

-- A Join/Prune reads back where the addresses of its entries are those of hosts.
abbrev pub JoinPruneReads : ℕ → ℕ → List Entry → List Entry → Type 0
JoinPruneReads upstream group joins prunes =
    IsTrue (is_multicast group) → All (λ e. IsTrue (is_unicast e.address.bits)) joins
    → All (λ e. IsTrue (is_unicast e.address.bits)) prunes
    → pim_reading (join_prune_text upstream group joins prunes)
    ≡ Ok (JoinPrune (record {
      upstream = upstream;
      holdtime = join_prune_holdtime;
      groups = record { group = group; joins = joins; prunes = prunes } ∷ [];
    }))
