use Rattle.law_converges.{proofs.LinkQuerierRun.queries_come_in_time}
use Rattle.law_converges.proofs.runs.queries_come_in_time.Goals as goal

pub returns : goal.returns
returns c = queries_come_in_time
