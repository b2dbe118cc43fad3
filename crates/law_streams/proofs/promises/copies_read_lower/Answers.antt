use Rattle.law_streams.{proofs.Read.copies_read_lower}
use Rattle.law_streams.proofs.promises.copies_read_lower.Goals as goal

pub returns : goal.returns
returns c = copies_read_lower
