use Rattle.pim_fanout.{proofs.Shown.event_shows_rows}
use Rattle.pim_fanout.proofs.laws.event_shows_rows.Goals as goal

pub returns : goal.returns
returns c = event_shows_rows
