use Rattle.pim_store.{proofs.Empty.emptiness}
use Rattle.pim_store.proofs.marks.is_empty_set.Goals as goal

pub returns : goal.returns
returns c = emptiness c.args.set _ c.is_empty.ensures
