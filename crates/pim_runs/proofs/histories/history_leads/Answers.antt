use Rattle.pim_runs.{proofs.History.history_leads}
use Rattle.pim_runs.proofs.histories.history_leads.Goals as goal

pub returns : goal.returns
returns c = history_leads
