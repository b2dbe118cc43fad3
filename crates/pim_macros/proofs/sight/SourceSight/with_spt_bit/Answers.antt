use Rattle.pim_macros.{proofs.SightsKept.spt_set}
use Rattle.pim_macros.proofs.sight.SourceSight.with_spt_bit.Goals as goal

pub returns-clause-sight : goal.returns-clause-sight
returns-clause-sight c s h = spt_set s c.args.self.star.group.bits c.args.self.source.bits c.args.self h
