-- An RP, 10.9.9.9, whose peer 10.255.0.9 tells it of a source by a Source-Active message (SA) with a packet of the source: it
-- meets the premises of the laws of pim_msdp. Computed by the kernel.
use Rattle.std.{specs.Prelude.{Err, List, None, Some, [], false, true, ℕ, ◌+◌, ◌==◌, ◌≡◌, ◌∷◌}}
use Rattle.pim_types.{specs.declared.{config.{Config.Config, RpTable.RpTable}, outcome.{Ignored.Ignored, Stop.Stop}}}
use Rattle.pim_model.{specs.{Forwarding.register_received, Judging.unicast_judged, Registers.keepalive_period, State.{Addressing, State, is_own, opening}, Step.{state_after, step}, Unicast.{is_rp}}}
use Rattle.pim_anycast.{specs.{Members.KnowsUntil, Passed.passed, Sets.set_for, declared.{front.Passed.Passed, set.RpSet.RpSet}}}
use Rattle.pim_msdp.{specs.{Actives.{active_text, given_active, is_packet_of}, Laws.{AreAddresses, CanLearnActive, IsTakenAs, active_packet}, Own.{is_own_source, registered}}}
use Rattle.pim_runs.{specs.{Anycast.{first, first_own, first_set, shared}, Base.{prefix, route_by}, Words.{address, hex, unicast, up}}}

abbrev pub peer : ℕ
peer = address 10 255 0 9

abbrev pub group : ℕ
group = address 239 1 1 1

-- behind 10.0.12.1
abbrev pub source : ℕ
source = address 10 1 0 50

abbrev pub config : Config
config = record first { routes = route_by 0 (address 10 0 12 1) (prefix (address 10 1 0 0) 16) ∷ [] }

-- the RP with its interfaces up
abbrev pub rp : State
rp = state_after (opening config) (up 7 0 ∷ up 7 1 ∷ [])

-- the packet of the source, by UDP
abbrev pub bytes : List ℕ
bytes = hex "4500001e000000001011b09a0a010032ef01010113881388000a00006869"

-- by which the router takes the SA
abbrev pub text : List ℕ
text = active_text peer shared group source bytes

-- The RP may learn the source: it is no source of its own links, and the SA has a packet of it. No own address of a set that
-- shares 10.9.9.9 is the one to which the SA goes.
pub record ActiveComes : Type 0 where
  pub addresses : AreAddresses peer shared group source
  pub learns : CanLearnActive rp shared group source
  pub packet : is_packet_of group source bytes ≡ true
  pub given : given_active rp peer shared group source bytes ≡ Some text
  pub apart : (set : RpSet) → set_for (first_set ∷ []) (rp).ranges group ≡ Some set → (shared == set.own.bits) ≡ false

-- So it is a Register of the source, which the RP knows for 210 s, and none of a set.
abbrev pub ActiveRegisters : Type 0
ActiveRegisters = IsTakenAs rp peer shared group source bytes

abbrev pub ActiveMakesKnown : Type 0
ActiveMakesKnown = KnowsUntil ((rp).present + keepalive_period) (step rp (unicast text)).state group source

abbrev pub SetLeavesActive : Type 0
SetLeavesActive = passed (first_set ∷ []) (rp).ranges text ≡ Passed.AsItCame

-- Having taken it the RP tells no peer of the source as its own.
abbrev pub ActiveIsNotSentBack : Type 0
ActiveIsNotSentBack =
    (is_own_source (step rp (unicast text)).state group source ≡ false)
    × ((sets : List RpSet) (configured : Addressing) (ranges : RpTable) → registered sets configured ranges text ≡ None)

-- ---- what isn't taken

-- an address that isn't the router's, and a group of the link
abbrev pub elsewhere : ℕ
elsewhere = address 10 9 9 8

abbrev pub link_group : ℕ
link_group = address 224 0 0 5

pub record OtherActivesCome : Type 0 where
  pub elsewhere_addresses : AreAddresses peer elsewhere group source
  pub elsewhere_not_own : is_own rp elsewhere ≡ false
  pub link_addresses : AreAddresses peer shared link_group source
  pub own : is_own rp shared ≡ true
  -- one of its own that isn't the RP of the group
  pub not_rp : is_rp rp group first_own ≡ false

-- So two are ignored, and one changes nothing.
pub record OtherActivesAreIgnored : Type 0 where
  pub elsewhere_ignored :
      unicast_judged rp (active_text peer elsewhere group source bytes) ≡ Err (Stop.Ignore Ignored.NotForMe)
  pub link_ignored : unicast_judged rp (active_text peer shared link_group source []) ≡ Err (Stop.Ignore Ignored.LinkLocal)
  pub nothing_changes : (register_received rp (active_packet peer first_own group source bytes) group source false).state ≡ rp
