use Rattle.std.{proofs.Common.{◌≡◌, ◌++◌, filter, map}}
use Rattle.pim_model.{specs.Records.is_at_group}
use Rattle.pim_querier.proofs.moving.push_sources_at.Given as goal

abbrev pub invariant-loop-key : goal.invariant-loop-key
invariant-loop-key l =
    l.keys.items ++ map (λ e. e.0) l.key-iterator
    ≡ l.fn.keys.items
    ++ map (λ e. e.0) (filter (λ e. is_at_group l.fn.place.iface.number l.fn.place.group.bits e.0) l.fn.world.source_records)
