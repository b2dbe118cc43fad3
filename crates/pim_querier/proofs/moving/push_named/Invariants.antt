use Rattle.std.{proofs.Common.{◌≡◌, ◌++◌, filter, map, not}}
use Rattle.pim_types.{specs.Keys.source_key}
use Rattle.pim_model.{specs.Tables.row_at}
use Rattle.pim_querier.{specs.Reports.{moved_named, stays}}
use Rattle.pim_querier.proofs.moving.push_named.Given as goal

abbrev pub invariant-loop-source : goal.invariant-loop-source
invariant-loop-source l =
    l.keys.items ++ map (source_key l.iface.number l.fn.group_record.group)
    (filter (λ src. not (stays l.fn.group_record.type
    (row_at l.world.source_records (source_key l.iface.number l.fn.group_record.group src)))) l.source-iterator)
    ≡ l.fn.keys.items ++ moved_named l.world.source_records l.iface.number l.fn.group_record
