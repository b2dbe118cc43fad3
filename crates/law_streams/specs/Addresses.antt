-- Own addresses that are of no interface, as a loopback's.
use Rattle.std.{specs.{List.list_any, Prelude.{Bool, List, None, Ok, [], true, ℕ, ◌==◌, ◌≡◌}}}
use Rattle.pim_ip.{specs.declared.addr.Addr.Addr}
use Rattle.pim_types.{specs.declared.{config.{Config.Config, InterfaceConfig.InterfaceConfig}, event.Event.Event}}
use Rattle.pim_model.{specs.{Limits.{are_own_addresses, config_test}, State.{State, addressing_of, is_own, opening}, Step.state_after, Unicast.{link_among, route}}}

-- The address is one of the router's that are of no interface.
abbrev pub is_of_none : State → ℕ → Bool
is_of_none s address = list_any (λ (own : Addr). own.bits == address) s.configured.addresses

-- The address is the router's, lies on no link, and no route leads to it.
pub record IsLinkless (s : State) (address : ℕ) : Type 0 where
  pub own : is_own s address ≡ true
  pub off : link_among s.configured s.interfaces address ≡ None
  pub nowhere : route s address ≡ None

-- An own address of no interface lies on no link after any events, whichever interfaces are up, and no route leads to it.
abbrev pub OwnIsOffLink : Type 0
OwnIsOffLink = (c : Config) (events : List Event) (address : ℕ) → config_test c ≡ Ok tt
    → is_of_none (opening c) address ≡ true → IsLinkless (state_after (opening c) events) address

-- Where there is none, the own addresses are those of the interfaces.
abbrev pub OthersAreOfInterfaces : Type 0
OthersAreOfInterfaces = (s : State) (address : ℕ) → s.configured.addresses ≡ []
    → is_own s address ≡ list_any (λ (c : InterfaceConfig). c.address.bits == address) s.configured.interfaces

-- No configuration is refused for its own addresses where there is none.
abbrev pub NoneIsAccepted : Type 0
NoneIsAccepted = (c : Config) → c.addresses ≡ [] → are_own_addresses (addressing_of c) ≡ true
