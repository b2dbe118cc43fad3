-- An RP that is another router.
use Rattle.std.{proofs.Common.{◌≡◌, ℕ, Bool, false, not, ◌&&◌, Option, Some, None, is_some, refl}, specs.{Option.option_map_or, Prelude.option_map}}
use Rattle.pim_ip.{specs.declared.addr.Addr.Addr}

pub other_where_known : (own : ℕ → Bool) (rp : Option Addr) (o : Option ℕ) → option_map (λ (a : Addr). a.bits) rp ≡ o
    → (is_some rp && not (option_map_or own o false)) ≡ option_map_or (λ a. not (own a)) o false
other_where_known own (Some a) o e = rw (← e) refl
other_where_known own None o e = rw (← e) refl
