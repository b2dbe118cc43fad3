use Rattle.std.{proofs.Common.{◌≡◌, ◌++◌}, specs.List.flat_map}
use Rattle.law_events.{specs.Adjacent.led_of_group}
use Rattle.pim_state.{specs.Groups.numbers_of}
use Rattle.pim_hello.proofs.towards.keys_of_groups.Given as goal

abbrev pub invariant-loop-group : goal.invariant-loop-group
invariant-loop-group l =
    let i = l.neighbour.iface.number in
    let address = l.neighbour.address.bits in
    l.keys.items ++ flat_map (led_of_group l.world i address) (numbers_of l.group-iterator)
    ≡ flat_map (led_of_group l.world i address) (numbers_of l.fn.groups.entries)
