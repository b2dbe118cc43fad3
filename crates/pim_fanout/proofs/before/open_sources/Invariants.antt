use Rattle.std.{proofs.Common.{◌≡◌, ◌++◌, map}}
use Rattle.pim_types.{specs.Keys.source_key}
use Rattle.pim_state.{specs.Groups.numbers_of}
use Rattle.pim_views.{specs.Openings.source_opening}
use Rattle.pim_fanout.{specs.Before.{AreBefore, key_before}}
use Rattle.pim_fanout.proofs.before.open_sources.Given as goal

abbrev pub invariant-loop-source : goal.invariant-loop-source
invariant-loop-source l = record {
  opened : l.opened.items ++ map (source_opening l.world l.star.group.bits) (numbers_of l.source-iterator)
      ≡ map (source_opening l.world l.star.group.bits) (numbers_of l.fn.sources.entries);
  keys : map key_before l.before.items ++ map (source_key 0 l.star.group.bits) (numbers_of l.source-iterator)
      ≡ map key_before l.fn.before.items ++ map (source_key 0 l.star.group.bits) (numbers_of l.fn.sources.entries);
  each : AreBefore l.world l.before.items;
}
