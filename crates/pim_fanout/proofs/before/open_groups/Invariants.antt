use Rattle.std.{proofs.Common.{◌≡◌, ◌++◌, map}, specs.List.flat_map}
use Rattle.pim_types.{specs.Keys.source_key}
use Rattle.pim_state.{specs.Groups.numbers_of}
use Rattle.pim_views.{specs.Openings.{group_opening, touched_sources}}
use Rattle.pim_fanout.{specs.Before.{AreBefore, key_before}}
use Rattle.pim_fanout.proofs.before.open_groups.Given as goal

abbrev pub invariant-loop-group : goal.invariant-loop-group
invariant-loop-group l = record {
  opened : l.opened.items ++ map (group_opening l.world l.touched) (numbers_of l.group-iterator)
      ≡ map (group_opening l.world l.touched) (numbers_of l.fn.groups.entries);
  keys : map key_before l.before.items
      ++ flat_map (λ g. map (source_key 0 g) (touched_sources l.world l.touched g)) (numbers_of l.group-iterator)
      ≡ map key_before l.fn.before.items
      ++ flat_map (λ g. map (source_key 0 g) (touched_sources l.world l.touched g)) (numbers_of l.fn.groups.entries);
  each : AreBefore l.world l.before.items;
}
