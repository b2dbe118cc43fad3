use Rattle.std.{proofs.Common.{refl, rules}}
use Rattle.pim_types.{specs.Packed.source_number, proofs.Packed.some_source}
use Rattle.pim_types.proofs.fact.source_number.Goals as goal

pub returns-in-Some-clause-number : goal.returns-in-Some-clause-number
returns-in-Some-clause-number c = rw (c.in-Some.is, c.from.ensures) (some_source c.in-Some.source (search rules))

pub returns-in-None-clause-number : goal.returns-in-None-clause-number
unfolding source_number
returns-in-None-clause-number c = rw c.in-None.is refl
