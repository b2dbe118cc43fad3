use Rattle.law_events.{proofs.RowsOfRuns.plain_leaves_rows}
use Rattle.law_events.proofs.kept.plain_leaves_rows.Goals as goal

pub returns : goal.returns
returns c = plain_leaves_rows
