-- The interfaces of a router as one value, and the tests of a configuration that are about them.
use Rattle.std.{specs.{List.list_all, Prelude.{Bool, List, Result, [], is_none, length, nat_lt, not, ℕ, ◌&&◌, ◌+◌, ◌<◌, ◌==◌, ◌≡◌, ◌≤◌, ◌∷◌}}}
use Rattle.pim_ip.{specs.{declared.refusal.Refusal.Refusal, Ipv4.is_unicast, Tests.{expect, ◌>>◌}}}
use Rattle.pim_types.{specs.{declared.{config.InterfaceConfig.InterfaceConfig, fact.{InterfaceRow.InterfaceRow, Key.Key}}, Keys.{group_in, iface_in, iface_key}}}
use Rattle.pim_model.{specs.{Limits.{are_apart, is_between, is_delay_config, most_ifaces}, Tables.Table}}

-- the tests on how many interfaces there are, on their addresses and on their subnets
unfoldable pub interfaces_test : List InterfaceConfig → Result (Unit {0}) Refusal
interfaces_test configured =
    expect (is_between 1 most_ifaces (length configured)) Refusal.InterfaceCount
    >> expect (list_all (λ (i : InterfaceConfig). is_unicast i.address.bits) configured) Refusal.InterfaceAddress
    >> expect (list_all (λ (i : InterfaceConfig). is_between 1 31 i.length) configured) Refusal.InterfaceLength
    >> expect (are_apart configured) Refusal.Overlap

-- the test on the delays that they announce
unfoldable pub delays_test : List InterfaceConfig → Result (Unit {0}) Refusal
delays_test configured = expect (list_all is_delay_config configured) Refusal.BadDelay

-- the rows are those of interfaces by rising number, the first not below low, the last below count
abbrev pub InterfacesRise : ℕ → ℕ → Table InterfaceRow → Type 0
InterfacesRise low count [] = Unit {0}
InterfacesRise low count (e ∷ es) =
    (e.0 ≡ iface_key (iface_in e.0)) × (low ≤ iface_in e.0) × (iface_in e.0 < count) × InterfacesRise (iface_in e.0 + 1) count es

-- The configured interfaces are the given ones, and the rows are those of the interfaces that are up.
pub record IsHeld (configured : List InterfaceConfig) (rows : Table InterfaceRow) : Type 0 where
  pub within : length configured ≤ most_ifaces
  pub rise : InterfacesRise 0 (length configured) rows

-- the key of an interface that is below a number
abbrev pub is_up_key : ℕ → Key → Bool
is_up_key count k = not k.rpt && (is_none k.source && ((group_in k == 0) && nat_lt (iface_in k) count))
