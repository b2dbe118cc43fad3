-- What a configuration has that passes its test.
use Rattle.std.{proofs.Common.{◌≡◌, ◌≤◌, Ok, arith, length}}
use Rattle.pim_types.{specs.declared.config.Config.Config}
use Rattle.pim_model.{specs.Limits.config_test}

-- at most 120 interfaces
pub few_interfaces : (c : Config) → config_test c ≡ Ok tt → length c.interfaces ≤ 120
unfolding config_test
few_interfaces c ok = grind arith
