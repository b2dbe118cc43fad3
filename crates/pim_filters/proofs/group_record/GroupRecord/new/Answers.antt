use Rattle.pim_filters.{proofs.Members.IsAscending-nil}
use Rattle.pim_filters.proofs.group_record.GroupRecord.new.Goals as goal

pub invariant_of-result : goal.invariant_of-result
invariant_of-result c = rw c.new.ensures.items IsAscending-nil
