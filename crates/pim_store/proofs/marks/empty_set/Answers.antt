use Rattle.pim_store.{proofs.Empty.has_none}
use Rattle.pim_store.proofs.marks.empty_set.Goals as goal

pub returns : goal.returns
returns c = has_none _ c.new.ensures.interfaces c.new.ensures.tunnel
