use Rattle.std.{proofs.Common.{sym, ◌∙◌, ap, length, arith}}
use Rattle.pim_ifset.{proofs.Ascending.{interfaces_empty, interfaces_first}}
use Rattle.pim_ifset.proofs.iter.IterIterator.next.Goals as goal

pub returns-then-self-eq0-clause-steps : goal.returns-then-self-eq0-clause-steps
returns-then-self-eq0-clause-steps c = rw (← c.self.view_is, c.if-self-eq0.true) (interfaces_empty _, interfaces_empty _)

pub returns-clause-steps : goal.returns-clause-steps
returns-clause-steps c = sym c.self.view_is ∙ interfaces_first c.self.inside.mask _ (omega arith) c.self.invariant

pub returns-clause-goes : goal.returns-clause-goes
returns-clause-goes c = record { on = λ _. (tt, tt, omega (arith, ap length (returns-clause-steps c))); keeps = tt; rests = λ _. tt }
