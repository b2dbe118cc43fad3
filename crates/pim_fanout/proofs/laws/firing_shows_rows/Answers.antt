use Rattle.pim_fanout.{proofs.Shown.firing_shows_rows}
use Rattle.pim_fanout.proofs.laws.firing_shows_rows.Goals as goal

pub returns : goal.returns
returns c = firing_shows_rows
