-- How many interfaces a router can have.
use Rattle.std.{specs.{List.range_with_len, Prelude.{Err, Ok, map, ℕ, ◌≡◌}}}
use Rattle.pim_ip.{specs.declared.refusal.Refusal.Refusal}
use Rattle.pim_types.{specs.declared.config.Config.Config}
use Rattle.pim_model.{specs.Limits.config_test}
use Rattle.pim_runs.{specs.{Base.{base, interface}, Words.address}}

-- The base with n interfaces.
abbrev pub with_interfaces : ℕ → Config
with_interfaces count = record base { interfaces = map (λ k. interface (address 10 1 k 1)) (range_with_len 0 count) }

-- A router has at most 120 interfaces.
abbrev pub InterfacesAreLimited : Type 0
InterfacesAreLimited =
    (config_test (with_interfaces 120) ≡ Ok tt) × (config_test (with_interfaces 121) ≡ Err Refusal.InterfaceCount)
