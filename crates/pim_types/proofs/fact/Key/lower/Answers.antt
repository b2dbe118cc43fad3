use Rattle.pim_types.{proofs.Packed.lower_joined}
use Rattle.pim_types.proofs.fact.Key.lower.Goals as goal

pub returns : goal.returns
returns c = lower_joined c.args.self c.source_number.result c.from.result c.source_number.ensures.number c.source_number.ensures.bound c.from.ensures
