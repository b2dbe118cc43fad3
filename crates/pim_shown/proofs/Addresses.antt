-- An address that may be there, by its bits.
use Rattle.std.{proofs.Common.{◌≡◌, ℕ, Option, Some, None, refl}, specs.Prelude.option_map}
use Rattle.pim_ip.{specs.{Addr.addr, declared.addr.Addr.Addr}}

pub by_bits : (a : Option Addr) (bits : Option ℕ) → option_map (λ (x : Addr). x.bits) a ≡ bits → a ≡ option_map addr bits
by_bits (Some x) bits e = rw (← e) refl
by_bits None bits e = rw (← e) refl
