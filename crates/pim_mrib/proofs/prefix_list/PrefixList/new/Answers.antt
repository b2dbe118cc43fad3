use Rattle.std.{proofs.Common.refl}
use Rattle.pim_model.{specs.Limits.are_distinct}
use Rattle.pim_mrib.{proofs.Filled.index_of_none}
use Rattle.pim_mrib.proofs.prefix_list.PrefixList.new.Goals as goal

pub invariant_of-result : goal.invariant_of-result
unfolding are_distinct
invariant_of-result g c = rw (c.new.ensures.items, c.new-2.ensures) (index_of_none g.T.Prefixed.prefix_of, refl, refl)
