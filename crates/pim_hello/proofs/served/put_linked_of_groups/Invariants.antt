use Rattle.std.{proofs.Common.{◌≡◌, ◌++◌}, specs.List.flat_map}
use Rattle.law_events.{specs.Adjacent.linked_of_group}
use Rattle.pim_state.{specs.Groups.numbers_of}
use Rattle.pim_hello.proofs.served.put_linked_of_groups.Given as goal

abbrev pub invariant-loop-group : goal.invariant-loop-group
invariant-loop-group l =
    l.keys.items ++ flat_map (linked_of_group l.world l.iface.number) (numbers_of l.group-iterator)
    ≡ l.fn.keys.items ++ flat_map (linked_of_group l.world l.iface.number) (numbers_of l.fn.groups.entries)
