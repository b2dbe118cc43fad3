use Rattle.std.{proofs.Common.{◌≡◌, ◌++◌, map}}
use Rattle.pim_types.{specs.Keys.source_key}
use Rattle.pim_querier.proofs.named.push_sources.Given as goal

abbrev pub invariant-loop-source : goal.invariant-loop-source
invariant-loop-source l =
    l.keys.items ++ map (source_key l.iface.number l.fn.group_record.group) l.source-iterator
    ≡ l.fn.keys.items ++ map (source_key l.iface.number l.fn.group_record.group) l.fn.group_record.sources
