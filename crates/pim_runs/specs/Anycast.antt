-- Two RPs that share 10.9.9.9. A DR registers a source with the first.
use Rattle.std.{specs.Prelude.{List, [], false, suc, true, zero, ℕ, ◌∷◌, ◌≡◌}}
use Rattle.pim_ip.{specs.{Addr.addr, declared.addr.Addr.Addr}}
use Rattle.pim_types.{specs.declared.{config.{Config.Config, RpRange.RpRange}, event.Event.Event}}
use Rattle.pim_model.{specs.{Network.{At, DeliverUnicast, Move, Network, network}, Registers.keepalive_period, State.addressing_of}}
use Rattle.pim_anycast.{specs.{Members.{AlwaysBehind, KnowsBetween, moved_behind}, Sets.are_rp_sets, declared.set.RpSet.RpSet}}
use Rattle.pim_runs.{specs.{Base.{base, interface, prefix, rp_for}, Words.{address, advance, hex, unicast}}}

abbrev pub shared : ℕ
shared = address 10 9 9 9

-- the own addresses of the two
abbrev pub first_own : ℕ
first_own = address 10 255 0 1

abbrev pub second_own : ℕ
second_own = address 10 255 0 2

abbrev pub ranges : List RpRange
ranges = rp_for (prefix (address 239 0 0 0) 8) shared ∷ []

abbrev pub first : Config
first = record base {
  interfaces = interface (address 10 0 12 2) ∷ interface (address 10 0 23 2) ∷ [];
  routes = [];
  rps = ranges;
  addresses = addr shared ∷ addr first_own ∷ [];
}

abbrev pub second : Config
second = record base {
  interfaces = interface (address 10 0 23 3) ∷ [];
  routes = [];
  rps = ranges;
  addresses = addr shared ∷ addr second_own ∷ [];
}

abbrev pub set_of : ℕ → List Addr → RpSet
set_of own others = record { shared = addr shared; own = addr own; others = others }

abbrev pub first_set : RpSet
first_set = set_of first_own (addr second_own ∷ [])

abbrev pub second_set : RpSet
second_set = set_of second_own (addr first_own ∷ [])

-- ---- settings

-- the first router can have these sets
abbrev pub fit : List RpSet → Type 0
fit sets = are_rp_sets (addressing_of first) sets ≡ true

abbrev pub dont_fit : List RpSet → Type 0
dont_fit sets = are_rp_sets (addressing_of first) sets ≡ false

-- Not one whose own address, or whose shared one, isn't the router's, nor one whose own address is shared; nor one with a
-- router twice, with the shared address, or with no host's; nor two of one shared address.
abbrev pub SetsAreTested : Type 0
SetsAreTested =
    fit (first_set ∷ []) × fit []
    × dont_fit (set_of second_own (addr (address 10 255 0 3) ∷ []) ∷ [])
    × dont_fit (record first_set { shared = addr (address 10 9 9 8) } ∷ [])
    × dont_fit (set_of shared (addr second_own ∷ []) ∷ [])
    × dont_fit (set_of first_own (addr second_own ∷ addr second_own ∷ []) ∷ [])
    × dont_fit (set_of first_own (addr second_own ∷ addr shared ∷ []) ∷ [])
    × dont_fit (set_of first_own (addr (address 239 1 1 1) ∷ []) ∷ [])
    × dont_fit (first_set ∷ set_of (address 10 0 12 2) (addr second_own ∷ []) ∷ [])

-- ---- in a network

-- a Null-Register of (10.1.0.50, 239.1.1.1) from a DR, 10.0.12.1, to the shared address, with TTL 62
abbrev pub register : List ℕ
register = hex "45c00030000000003e6752950a000c010a09090921009eff4000000045000014000000000167bf4e0a010032ef010101"

abbrev pub sets : ℕ → List RpSet
sets zero = first_set ∷ []
sets (suc r) = second_set ∷ []

abbrev pub rps : Network
rps = network ((first, 1 ∷ 2 ∷ []) ∷ (second, 2 ∷ []) ∷ [])

abbrev pub registers : Event
registers = unicast register

abbrev pub heard : Network
heard = moved_behind sets rps (At 0 registers)

-- The copy comes to the second within 100 ms, and time passes there.
abbrev pub later : List Move
later = DeliverUnicast 1 1 7 ∷ At 1 (advance 60000) ∷ At 1 (advance 209999) ∷ []

abbrev pub started : ℕ → ℕ
started r = 0

-- The second knows the source from 100 ms after the first got its Register until 210 s after that.
abbrev pub SecondKnows : Type 0
SecondKnows =
    AlwaysBehind sets (KnowsBetween started 1 (address 239 1 1 1) (address 10 1 0 50) 100 keepalive_period) heard later
