use Rattle.std.{proofs.Common.{◌≡◌, ◌++◌, filter, map, not}}
use Rattle.pim_model.{specs.{Records.is_at_group, Tables.has_row}}
use Rattle.igmp_membership.proofs.stale_queries.unrecorded_at.Given as goal

abbrev pub invariant-loop-key : goal.invariant-loop-key
invariant-loop-key l =
    l.keys.items ++ map (λ e. e.0) (filter (λ e. not (has_row l.records e.0)) l.key-iterator)
    ≡ map (λ e. e.0) (filter (λ e. not (has_row l.records e.0))
    (filter (λ e. is_at_group l.fn.iface.number l.fn.group.bits e.0) l.sendings))
