-- What holds of an SA that a router is given.
use Rattle.std.{specs.Prelude.{Bool, Err, IsTrue, List, None, Some, [], false, true, ℕ, ◌+◌, ◌<◌, ◌==◌, ◌^◌, ◌≡◌}}
use Rattle.pim_ip.{specs.{Ipv4.{Packet, is_link_local, is_multicast, is_unicast, protocol_pim}, View.written_packet}}
use Rattle.pim_types.specs.declared.{config.RpTable.RpTable, event.{Event.Event, EventKind.EventKind}, outcome.{Ignored.Ignored, Stop.Stop}}
use Rattle.pim_wire.specs.{RegisterParts.{registered_group, registered_source}, Values.Register}
use Rattle.pim_model.{specs.{Forwarding.register_received, Full.source_is_full, Judging.{register_judged, unicast_judged}, Registers.{is_spt_wanted, keepalive_period}, State.{Addressing, State, is_own}, Step.step, Unicast.{is_rp, route}}}
use Rattle.pim_anycast.specs.{Members.KnowsUntil, Passed.passed, Sets.set_for, declared.{front.Passed.Passed, set.RpSet.RpSet}}
use Rattle.pim_msdp.{specs.{Actives.{active_message, active_text, active_time_to_live, given_active}, Own.{is_own_source, registered}}}

-- ---- what an SA is taken for

-- Addresses that fit their fields: hosts' of the peer and of the source, and a group's.
pub record AreAddresses (peer rp g src : ℕ) : Type 0 where
  pub peer_host : IsTrue (is_unicast peer)
  pub rp_fits : rp < 2 ^ 32
  pub source_host : IsTrue (is_unicast src)
  pub multicast : IsTrue (is_multicast g)

-- the packet by which an SA is judged: as a DR's, from the peer
abbrev pub active_packet : (peer rp g src : ℕ) → List ℕ → Packet
active_packet peer rp g src bytes =
    written_packet [] active_time_to_live protocol_pim peer rp (active_message g src bytes)

-- An SA is judged as a Register of its source to its group.
pub record IsTakenAs (t : State) (peer rp g src : ℕ) (bytes : List ℕ) : Type 0 where
  pub register : Register
  pub group : registered_group register ≡ g
  pub source : registered_source register ≡ src
  pub judged : unicast_judged t (active_text peer rp g src bytes) ≡ register_judged (active_packet peer rp g src bytes) register

-- What the router is given for an SA to an address of its own is taken as if a DR had sent it.
abbrev pub ActiveIsTaken : Type 0
ActiveIsTaken =
    (t : State) (peer rp g src : ℕ) (bytes : List ℕ) → AreAddresses peer rp g src → is_own t rp ≡ true
    → IsTakenAs t peer rp g src bytes

-- It goes to none of a set of RPs that share an address, and is given as it is, unless it is to the own address of the set.
abbrev pub SetsLeaveActives : Type 0
SetsLeaveActives =
    (sets : List RpSet) (ranges : RpTable) (peer rp g src : ℕ) (bytes : List ℕ) → AreAddresses peer rp g src
    → ((set : RpSet) → set_for sets ranges g ≡ Some set → (rp == set.own.bits) ≡ false)
    → passed sets ranges (active_text peer rp g src bytes) ≡ Passed.AsItCame

-- The RP of the group that leaves the shared tree (SwitchToSptDesired), and has room for the source or knows it.
pub record CanLearnActive (t : State) (rp g src : ℕ) : Type 0 where
  pub own : is_own t rp ≡ true
  pub for_it : is_rp t g rp ≡ true
  pub forwarded : is_link_local g ≡ false
  pub wanted : is_spt_wanted t ≡ true
  pub room : source_is_full t g src ≡ false

-- An SA makes its source known to the RP for Keepalive_Period.
abbrev pub ActiveIsKnown : Type 0
ActiveIsKnown =
    (t : State) (peer rp g src draw : ℕ) (bytes : List ℕ) → AreAddresses peer rp g src → CanLearnActive t rp g src
    → (let e : Event = record { draw = draw; kind = EventKind.Unicast (active_text peer rp g src bytes) } in
    KnowsUntil (t.present + keepalive_period) (step t e).state g src)

-- ---- what isn't taken

-- One to an address that isn't the router's is ignored.
abbrev pub OtherAddressIsIgnored : Type 0
OtherAddressIsIgnored =
    (t : State) (peer rp g src : ℕ) (bytes : List ℕ) → AreAddresses peer rp g src → is_own t rp ≡ false
    → unicast_judged t (active_text peer rp g src bytes) ≡ Err (Stop.Ignore Ignored.NotForMe)

-- One of a link-local group is ignored.
abbrev pub LinkLocalIsIgnored : Type 0
LinkLocalIsIgnored =
    (t : State) (peer rp g src : ℕ) (bytes : List ℕ) → AreAddresses peer rp g src → is_own t rp ≡ true
    → is_link_local g ≡ true → unicast_judged t (active_text peer rp g src bytes) ≡ Err (Stop.Ignore Ignored.LinkLocal)

-- One to an address that isn't the group's RP changes nothing of the state.
abbrev pub OtherRpChangesNothing : Type 0
OtherRpChangesNothing =
    (t : State) (peer rp g src : ℕ) (bytes : List ℕ) (null : Bool) → is_rp t g rp ≡ false
    → (register_received t (active_packet peer rp g src bytes) g src null).state ≡ t

-- ---- no SA is told on as one's own

-- A source of which the router was given an SA isn't its own while the route to it stays, and the SA is no Register of a DR.
abbrev pub NoneSentBack : Type 0
NoneSentBack =
    (t u : State) (peer rp g src : ℕ) (bytes text : List ℕ) → AreAddresses peer rp g src
    → given_active t peer rp g src bytes ≡ Some text → route u src ≡ route t src
    → (is_own_source u g src ≡ false)
    × ((sets : List RpSet) (configured : Addressing) (ranges : RpTable) → registered sets configured ranges text ≡ None)
