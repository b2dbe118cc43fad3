use Rattle.std.{proofs.Common.{◌≡◌, ◌<◌, ◌&&◌, ℕ, Bool, nat_lt}}
use Rattle.pim_ifset.{specs.Members.has}
use Rattle.pim_macros.proofs.interfaces.interfaces_where.Given as goal

abbrev pub invariant-loop-number : goal.invariant-loop-number
invariant-loop-number g l =
    (p : ℕ → Bool)
    → ((i : ℕ) (b : Bool) → i < 120 → goal.F-post g l.test (record { number = i }) b → b ≡ p i)
    → (q : ℕ) → has l.set q ≡ (nat_lt q l.number && p q)
