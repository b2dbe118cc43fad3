use Rattle.law_streams.{proofs.Adjacent.neighbours_come_to_be_known}
use Rattle.law_streams.proofs.in_time.neighbours_come_to_be_known.Goals as goal

pub returns : goal.returns
returns c = neighbours_come_to_be_known
