use Rattle.std.{proofs.Common.{◌≡◌, ◌==◌, not}, specs.List.list_any}
use Rattle.pim_types.{specs.Keys.source_in}
use Rattle.pim_event.{specs.Ends.has_other_sources}
use Rattle.pim_event.proofs.time.has_other_sources.Given as goal

abbrev pub invariant-loop-key : goal.invariant-loop-key
invariant-loop-key l =
    has_other_sources l.world l.fn.iface.number l.fn.name.group.bits l.name.source.bits
    ≡ list_any (λ e. not (source_in e.0 == l.name.source.bits)) l.key-iterator
