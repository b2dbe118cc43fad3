-- Own addresses: the metric of each assert that the router won names the address that its interface has, and where no
-- configuration has an own address of no interface, the own addresses are those of the interfaces.
use Rattle.std.{specs.{List.{list_all, list_any}, Prelude.{Bool, List, [], false, true, ℕ, ◌==◌, ◌||◌, ◌≡◌, ◌∷◌}}}
use Rattle.pim_types.{specs.{Keys.iface_in, declared.{config.{Config.Config, InterfaceConfig.InterfaceConfig}, fact.{AssertRole.AssertRole, AssertRow.AssertRow, Key.Key}}}}
use Rattle.pim_model.{specs.State.{State, address_among, is_own}}
use Rattle.law_states.{specs.{History.{Given, IsLedTo}, Ends.IsKept}}

unfoldable pub names_own : State → Key × AssertRow → Bool
names_own s e =
    elim (e.1).role [ AssertRole.Winner ↦ false | AssertRole.Loser ↦ true ]
    || ((e.1).winner.address.bits == address_among s.configured (iface_in e.0))

unfoldable pub won_are_own : State → Bool
won_are_own s = list_all (names_own s) s.asserts

-- It is so after any events and reloads.
abbrev pub WonStayOwn : Type 0
WonStayOwn = IsKept won_are_own

-- The configuration of each reload has no own address of no interface.
abbrev pub HaveNone : List Given → Type 0
HaveNone [] = Unit {0}
HaveNone (Given.Happening e ∷ later) = HaveNone later
HaveNone (Given.Reload c w ∷ later) = (c.addresses ≡ []) × HaveNone later
HaveNone (Given.Placed m c w ∷ later) = (c.addresses ≡ []) × HaveNone later
HaveNone (Given.Kept g src m ∷ later) = HaveNone later

-- Then, after any events and reloads, an address is the router's exactly where it is that of an interface.
abbrev pub LedOwnAreOfInterfaces : Type 0
LedOwnAreOfInterfaces = (c : Config) (before : List Given) (s : State) (address : ℕ) → IsLedTo c before s
    → c.addresses ≡ [] → HaveNone before
    → is_own s address ≡ list_any (λ (i : InterfaceConfig). i.address.bits == address) s.configured.interfaces
