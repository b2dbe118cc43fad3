use Rattle.std.{proofs.Common.rules}
use Rattle.pim_types.{proofs.Packed.upper_joined}
use Rattle.pim_types.proofs.fact.Key.upper.Goals as goal

pub returns-clause-number : goal.returns-clause-number
returns-clause-number c =
    rw (c.from.ensures, c.from-2.ensures) (upper_joined c.args.self (search rules) (search rules))
