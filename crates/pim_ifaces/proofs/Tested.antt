-- What a tested configuration has.
use Rattle.std.{proofs.{Common.{◌≡◌, ◌≤◌, Bool, true, false, ◌&&◌, List, length, Result, Ok, Err, refl, arith, leb}, lemmas.Bool.Decides.nat_tests}, specs.List.list_all}
use Rattle.pim_ip.{specs.{Ipv4.is_unicast, Tests.{expect, ◌>>◌}, declared.refusal.Refusal.Refusal}}
use Rattle.pim_types.{specs.declared.config.InterfaceConfig.InterfaceConfig}
use Rattle.pim_model.{specs.Limits.{are_apart, is_between}}
use Rattle.pim_ifaces.{specs.Interfaces.interfaces_test}

then_ok : (a b : Result (Unit {0}) Refusal) → (a >> b) ≡ Ok tt → a ≡ Ok tt
then_ok (Ok done) b h = refl
then_ok (Err e) b h = cc

is_held : (b : Bool) (e : Refusal) → expect b e ≡ Ok tt → b ≡ true
is_held true e h = refl
is_held false e h = cc

second : (a b : Bool) → (a && b) ≡ true → b ≡ true
second true b e = e
second false b e = cc

-- there are at most 120 interfaces
pub few : (cs : List InterfaceConfig) → interfaces_test cs ≡ Ok tt → length cs ≤ 120
unfolding interfaces_test
few cs h = within (is_held _ _ (then_ok _ _ h))
  where
    within : is_between 1 120 (length cs) ≡ true → length cs ≤ 120
    within e = grind (arith, nat_tests, second (leb 1 (length cs)) _ e)

all_held : (a b c d : Bool) (e f g h : Refusal)
    → (expect a e >> expect b f >> expect c g >> expect d h) ≡ Ok tt → d ≡ true
all_held true true true d e f g h r = is_held d h r
all_held true true false d e f g h r = cc
all_held true false c d e f g h r = cc
all_held false b c d e f g h r = cc

-- their subnets are apart
pub apart : (cs : List InterfaceConfig) → interfaces_test cs ≡ Ok tt → are_apart cs ≡ true
unfolding interfaces_test
apart cs h =
    all_held (is_between 1 120 (length cs)) (list_all (λ (i : InterfaceConfig). is_unicast i.address.bits) cs)
    (list_all (λ (i : InterfaceConfig). is_between 1 31 i.length) cs) (are_apart cs) Refusal.InterfaceCount
    Refusal.InterfaceAddress Refusal.InterfaceLength Refusal.Overlap h
