use Rattle.pim_macros.{proofs.SightsKept.kept_alive}
use Rattle.pim_macros.proofs.sight.SourceSight.kept_alive.Goals as goal

pub returns-clause-sight : goal.returns-clause-sight
returns-clause-sight c s h = kept_alive s c.args.self.star.group.bits c.args.self.source.bits c.args.self h
