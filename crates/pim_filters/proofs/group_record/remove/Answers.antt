use Rattle.std.{proofs.Common.rules}
use Rattle.pim_filters.{proofs.Members.filter-from_retain}
use Rattle.pim_filters.proofs.group_record.remove.Goals as goal

pub returns : goal.returns
returns c = filter-from_retain _ _ _ (λ x b f' y called. search rules) _ _ c.retain.ensures.filtered
