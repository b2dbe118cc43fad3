-- The tests of a configuration, in two parts.
use Rattle.std.{proofs.{Common.{◌≡◌, ◌≤◌, arith, Bool, true, false, Result, Ok, Err, [], List, refl, sym, ap, ◌∙◌}, lemmas.Bool.Decides.nat_tests}, specs.{List.list_all, Prelude.{if◌then◌else◌, is_err, length}}}
use Rattle.pim_ip.{specs.{declared.{addr.Addr.Addr, refusal.Refusal.Refusal}, Ipv4.is_unicast, Tests.{expect, ◌>>◌}}}
use Rattle.pim_types.{specs.declared.config.{Config.Config, InterfaceConfig.InterfaceConfig, Settings.Settings}}
use Rattle.pim_model.{specs.{Limits.{are_apart, are_own_addresses, are_routes, are_rps, config_test, is_between, is_delay_config, is_querier_config, most_ifaces}, State.{addressing_of, opening, settings_of, InterfaceTable}}}
use Rattle.pim_ifaces.{specs.Interfaces.{delays_test, interfaces_test}}
use Rattle.pim_mrib.{specs.Routes.{RouteTable, table_of}}
use Rattle.pim_state.{specs.Configurations.{settings_test, without_facts}}

ten : (a b c d e f g h i j : Bool)
    → (expect a Refusal.InterfaceCount >> expect b Refusal.InterfaceAddress >> expect c Refusal.InterfaceLength >>
    expect d Refusal.Overlap
    >> expect e Refusal.BadLimit >> expect f Refusal.BadQuerier >> expect g Refusal.BadDelay >> expect h
    Refusal.ConfiguredRoutes >> expect i Refusal.ConfiguredRps >> expect j Refusal.OwnAddresses)
    ≡ (((expect a Refusal.InterfaceCount >> expect b Refusal.InterfaceAddress >> expect c Refusal.InterfaceLength >>
    expect d Refusal.Overlap)
    >> expect e Refusal.BadLimit >> expect f Refusal.BadQuerier >> expect g Refusal.BadDelay) >> expect h
    Refusal.ConfiguredRoutes >> expect i Refusal.ConfiguredRps >> expect j Refusal.OwnAddresses)
ten false b c d e f g h i j = refl
ten true false c d e f g h i j = refl
ten true true false d e f g h i j = refl
ten true true true false e f g h i j = refl
ten true true true true false f g h i j = refl
ten true true true true true false g h i j = refl
ten true true true true true true false h i j = refl
ten true true true true true true true false i j = refl
ten true true true true true true true true false j = refl
ten true true true true true true true true true j = refl

pub in_two_parts : (c : Config) → config_test c
    ≡ (settings_test c >> expect (are_routes (addressing_of c) c.routes) Refusal.ConfiguredRoutes >> expect
    (are_rps c.rps) Refusal.ConfiguredRps >> expect (are_own_addresses (addressing_of c)) Refusal.OwnAddresses)
unfolding config_test settings_test interfaces_test delays_test
in_two_parts c =
    ten (is_between 1 most_ifaces (length c.interfaces))
    (list_all (λ (i : InterfaceConfig). is_unicast i.address.bits) c.interfaces)
    (list_all (λ (i : InterfaceConfig). is_between 1 31 i.length) c.interfaces) (are_apart c.interfaces)
    (is_between 1 1000000 c.limit)
    (is_querier_config c) (list_all is_delay_config c.interfaces) (are_routes (addressing_of c) c.routes) (are_rps c.rps)
    (are_own_addresses (addressing_of c))

pub settings_refused : (c : Config) (refusal : Refusal) → settings_test c ≡ Err refusal → config_test c ≡ Err refusal
settings_refused c refusal e = in_two_parts c ∙ rw e refl

pub routes_refused : (c : Config) → settings_test c ≡ Ok tt → are_routes (addressing_of c) c.routes ≡ false
    → config_test c ≡ Err Refusal.ConfiguredRoutes
routes_refused c e r = in_two_parts c ∙ rw e (rw r refl)

pub rps_refused : (c : Config) → settings_test c ≡ Ok tt → are_routes (addressing_of c) c.routes ≡ true
    → are_rps c.rps ≡ false
    → config_test c ≡ Err Refusal.ConfiguredRps
rps_refused c e r q = in_two_parts c ∙ rw e (rw r (rw q refl))

pub addresses_refused : (c : Config) → settings_test c ≡ Ok tt → are_routes (addressing_of c) c.routes ≡ true
    → are_rps c.rps ≡ true → are_own_addresses (addressing_of c) ≡ false → config_test c ≡ Err Refusal.OwnAddresses
addresses_refused c e r q a = in_two_parts c ∙ rw e (rw r (rw q (rw a refl)))

pub all_accepted : (c : Config) → settings_test c ≡ Ok tt → are_routes (addressing_of c) c.routes ≡ true
    → are_rps c.rps ≡ true → are_own_addresses (addressing_of c) ≡ true → config_test c ≡ Ok tt
all_accepted c e r q a = in_two_parts c ∙ rw e (rw r (rw q (rw a refl)))

first_ok : (a b : Result (Unit {0}) Refusal) → (a >> b) ≡ Ok tt → a ≡ Ok tt
first_ok (Ok done) b h = refl
first_ok (Err refusal) b h = cc

pub interfaces_tested : (c : Config) → settings_test c ≡ Ok tt → interfaces_test c.interfaces ≡ Ok tt
unfolding settings_test
interfaces_tested c e = first_ok (interfaces_test c.interfaces) _ e

pub test_failed : (b : Bool) (bad : Refusal) (x : Result (Unit {0}) Refusal) → x ≡ (if b then Ok tt else Err bad)
    → is_err x ≡ true → b ≡ false
test_failed true bad x e f = cc (e, ap (λ (y : Result (Unit {0}) Refusal). is_err y) e, f)
test_failed false bad x e f = refl

pub test_held : (b : Bool) (bad : Refusal) (x : Result (Unit {0}) Refusal) → x ≡ (if b then Ok tt else Err bad)
    → is_err x ≡ false → b ≡ true
test_held true bad x e f = refl
test_held false bad x e f = cc (e, ap (λ (y : Result (Unit {0}) Refusal). is_err y) e, f)

pub chosen : {A : Type 0} (b : Bool) (x a d : A) → x ≡ (if b then a else d) → b ≡ true → x ≡ a
chosen true x a d e f = e
chosen false x a d e f = cc

-- the interfaces as they were made of a configuration
pub from_given : (c : Config) (t : InterfaceTable) (xs : List InterfaceConfig) (own : List Addr)
    → t ≡ record { configured = record { interfaces = xs; addresses = own }; rows = [] } → xs ≡ c.interfaces
    → own ≡ c.addresses → t ≡ record { configured = addressing_of c; rows = [] }
from_given c t xs own is a b = is ∙ rw (a, b) refl

pub own_from_given : (c : Config) (xs : List InterfaceConfig) (own : List Addr) (b d : Bool)
    → b ≡ are_own_addresses (record { interfaces = xs; addresses = own }) → b ≡ d → xs ≡ c.interfaces
    → own ≡ c.addresses → are_own_addresses (addressing_of c) ≡ d
own_from_given c xs own b d is e f g = rw (← f, ← g) (sym is ∙ e)

pub opens : (c : Config) (settings : Settings) (interfaces : InterfaceTable) (mrib : RouteTable)
    → settings ≡ settings_of c → interfaces ≡ record { configured = addressing_of c; rows = [] }
    → mrib ≡ record { routes = c.routes; ranges = table_of c.rps [] } → without_facts settings interfaces mrib ≡ opening c
unfolding opening
opens c settings interfaces mrib a b d = rw (a, b, d) refl

sixth : (a b c d e f g : Bool)
    → ((expect a Refusal.InterfaceCount >> expect b Refusal.InterfaceAddress >> expect c Refusal.InterfaceLength >>
    expect d Refusal.Overlap)
    >> expect e Refusal.BadLimit >> expect f Refusal.BadQuerier >> expect g Refusal.BadDelay) ≡ Ok tt → f ≡ true
sixth a b c d e true g h = refl
sixth true true true true true false g h = cc
sixth true true true true false false g h = cc
sixth true true true false e false g h = cc
sixth true true false d e false g h = cc
sixth true false c d e false g h = cc
sixth false b c d e false g h = cc

-- what a configuration that is accepted says of the querier
pub record IsPlain (c : Config) : Type 0 where
  pub least : 2 ≤ c.robustness
  pub most : c.robustness ≤ 7
  pub interval : c.query_interval ≤ 31744

plain : (c : Config) → is_querier_config c ≡ true → IsPlain c
unfolding is_querier_config
plain c e = record {
  least = grind (arith, nat_tests, e);
  most = grind (arith, nat_tests, e);
  interval = grind (arith, nat_tests, e);
}

pub querier_within : (c : Config) → settings_test c ≡ Ok tt → IsPlain c
unfolding settings_test interfaces_test delays_test
querier_within c e =
    plain c
    (sixth (is_between 1 most_ifaces (length c.interfaces))
    (list_all (λ (i : InterfaceConfig). is_unicast i.address.bits) c.interfaces)
    (list_all (λ (i : InterfaceConfig). is_between 1 31 i.length) c.interfaces) (are_apart c.interfaces)
    (is_between 1 1000000 c.limit)
    (is_querier_config c) (list_all is_delay_config c.interfaces) e)
