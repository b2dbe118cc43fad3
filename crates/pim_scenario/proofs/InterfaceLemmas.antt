-- An interface's subnet is its text at `address`.
use Rattle.std.{proofs.Common.{◌≡◌, ℕ, List, Some, codes}}
use Rattle.toml.{specs.Data.Members}
use Rattle.pim_ip.{specs.declared.addr.Prefix.Prefix}
use Rattle.pim_types.{specs.declared.config.InterfaceConfig.InterfaceConfig}
use Rattle.pim_scenario.{specs.{Fields.text_at, Texts.IsPrefixText, Scenario.IsInterface}, proofs.ReadLemmas.the_same}

pub no_subnet : (ms : Members) (text : List ℕ) → Some text ≡ text_at (codes "address") ms
    → ((p : Prefix) → IsPrefixText text p → ⊥) → (i : InterfaceConfig) → IsInterface ms i → ⊥
no_subnet ms text there none i is =
    let same : text ≡ is.subnet_text = the_same _ text is.subnet_text there is.subnet_at in
    none (record { address = i.address; length = i.length }) (rw same is.subnet)
