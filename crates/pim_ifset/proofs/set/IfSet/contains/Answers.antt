use Rattle.std.{proofs.{Common.{sym, ◌∙◌, arith, ◌≡◌, false, nat_lt}, lemmas.Bool.Decides.nat_tests}}
use Rattle.pim_ifset.{proofs.{Masks.has_above, Packing.has_shifted}}
use Rattle.pim_ifset.proofs.set.IfSet.contains.Goals as goal

pub returns-then-iface-lt-LIMIT : goal.returns-then-iface-lt-LIMIT
returns-then-iface-lt-LIMIT c = rw (← c.self.view_is) (has_shifted _ c.args.iface.number c.if-iface-lt-LIMIT.true)

pub returns-else-iface-lt-LIMIT : goal.returns-else-iface-lt-LIMIT
returns-else-iface-lt-LIMIT c = rw (← c.self.view_is) (let e : nat_lt c.args.iface.number 120 ≡ false = grind (arith, nat_tests) in e ∙ sym (has_above _ _ c.args.iface.number c.self.invariant.1 (omega arith)))
