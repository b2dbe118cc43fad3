use Rattle.std.{proofs.Common.◌∙◌}
use Rattle.pim_fanout.{proofs.Joining.all_joined}
use Rattle.pim_fanout.proofs.disturbed.Disturbed.add.Goals as goal

pub returns-in-All : goal.returns-in-All
returns-in-All c = c.add_all.ensures ∙ all_joined c.args.self.now c.args.touched c.in-All.is
