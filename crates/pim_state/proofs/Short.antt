-- The preferences of routes have 31 bits.
use Rattle.std.{proofs.Common.{ℕ, Option, Some, None}, specs.Prelude.option_and_then}
use Rattle.pim_types.{specs.declared.path.Path.Path}
use Rattle.pim_state.{specs.Short.IsShort}

pub next_is_short : (of : ℕ → Option Path) → ((address : ℕ) → IsShort (of address)) → (rp : Option ℕ)
    → IsShort (option_and_then of rp)
next_is_short of short None = tt
next_is_short of short (Some address) = short address
