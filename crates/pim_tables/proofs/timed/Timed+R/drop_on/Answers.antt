use Rattle.pim_timers.{specs.Armed.holds}
use Rattle.pim_tables.{proofs.Steps.fewer_armed}
use Rattle.pim_tables.proofs.timed.Timed+R.drop_on.Goals as goal

pub settle_all-requires : goal.settle_all-requires
settle_all-requires g c =
    fewer_armed g.R.Ends.kinds g.R.Ends.ends c.self.inside.rows c.drop_on.new.self c.args.iface.number
    (holds c.self.inside.queue) c.drop_on.ensures c.self.invariant.armed
