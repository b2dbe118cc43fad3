-- How long a Null-Register is.
use Rattle.std.proofs.Common.{◌≡◌, ℕ, length, refl}
use Rattle.pim_ip.{specs.Checksum.with_checksum}
use Rattle.pim_wire.{specs.Registers.{dummy_text, null_register_text}}

pub null_long : (source group : ℕ) → length (null_register_text source group) ≡ 28
unfolding null_register_text dummy_text with_checksum
null_long source group = refl
