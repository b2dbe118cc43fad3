use Rattle.pim_macros.{proofs.SightsKept.tunnel_set}
use Rattle.pim_macros.proofs.sight.SourceSight.with_tunnel.Goals as goal

pub returns-clause-sight : goal.returns-clause-sight
returns-clause-sight c s t h is =
    tunnel_set s t c.args.self.star.group.bits c.args.self.source.bits c.args.self c.args.is_joined h is
