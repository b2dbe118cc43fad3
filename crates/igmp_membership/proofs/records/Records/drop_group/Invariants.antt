use Rattle.std.{proofs.Common.{◌≡◌, length}}
use Rattle.pim_model.{specs.{Records.is_at_group, Tables.drop_where}}
use Rattle.igmp_membership.proofs.records.Records.drop_group.Given as goal

abbrev pub invariant-loop-key : goal.invariant-loop-key
invariant-loop-key g l =
    drop_where (is_at_group l.iface.number l.group.bits) l.self ≡ drop_where (is_at_group l.iface.number l.group.bits) l.fn.self

abbrev pub decreases-loop-key : goal.decreases-loop-key
decreases-loop-key g l = length l.self
