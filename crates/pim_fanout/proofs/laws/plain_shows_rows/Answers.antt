use Rattle.pim_fanout.{proofs.Shown.plain_shows_rows}
use Rattle.pim_fanout.proofs.laws.plain_shows_rows.Goals as goal

pub returns : goal.returns
returns c = plain_shows_rows
