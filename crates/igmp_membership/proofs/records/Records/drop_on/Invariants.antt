use Rattle.std.{proofs.Common.{◌≡◌, length}}
use Rattle.pim_types.{specs.Keys.is_on}
use Rattle.pim_model.{specs.Tables.drop_where}
use Rattle.igmp_membership.proofs.records.Records.drop_on.Given as goal

abbrev pub invariant-loop-key : goal.invariant-loop-key
invariant-loop-key g l =
    drop_where (is_on l.iface.number) l.self ≡ drop_where (is_on l.iface.number) l.fn.self

abbrev pub decreases-loop-key : goal.decreases-loop-key
decreases-loop-key g l = length l.self
