use Rattle.std.{proofs.Common.{◌≡◌, ◌+◌, ◌++◌, length}}
use Rattle.pim_state.{specs.Groups.numbers_of}
use Rattle.pim_model.{specs.{Messages.entry, Upstream.{is_pruned_with_star, pruned_with_star}}}
use Rattle.pim_wire.{specs.declared.join_prune.EntryKind.EntryKind}
use Rattle.pim_upstream.{proofs.Pruned.first_of}
use Rattle.pim_upstream.proofs.compound.pruned_with_star.Given as goal

abbrev pub invariant-loop-source : goal.invariant-loop-source
invariant-loop-source l = record {
  pruned : l.pruned.items
      ++ first_of (entry EntryKind.SourceRpt) (is_pruned_with_star l.world l.star.group.bits) l.room
      (numbers_of l.source-iterator)
      ≡ pruned_with_star l.world l.star.group.bits;
  counted : length l.pruned.items + l.room ≡ 160;
}
