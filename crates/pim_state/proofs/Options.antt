-- An address and its number.
use Rattle.std.{proofs.Common.{◌≡◌, ℕ, Option, Some, None, refl, option_map, option_and_then}}
use Rattle.pim_ip.{specs.declared.addr.Addr.Addr}

module _ {B : Type 0} (next : ℕ → Option B) where
  pub next_of_some : (r : Option Addr) (a : Addr) (o : Option ℕ) → option_map (λ x. x.bits) r ≡ o → r ≡ Some a
      → next a.bits ≡ option_and_then next o
  next_of_some r a o is e = rw (← is) (rw e refl)

  pub next_of_none : (r : Option Addr) (o : Option ℕ) → option_map (λ x. x.bits) r ≡ o → r ≡ None
      → None ≡ option_and_then next o
  next_of_none r o is e = rw (← is) (rw e refl)
