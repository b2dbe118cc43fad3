use Rattle.std.{proofs.Common.{◌≡◌, ◌&&◌, ℕ, nat_lt}}
use Rattle.pim_ifset.{specs.Members.has}
use Rattle.pim_state.{specs.Shown.is_dr_on}
use Rattle.pim_state.proofs.parts.elected.Given as goal

abbrev pub invariant-loop-number : goal.invariant-loop-number
invariant-loop-number l = (q : ℕ) → has l.dr q ≡ (nat_lt q l.number && is_dr_on l.interfaces.configured l.neighbours q)
