use Rattle.std.{proofs.Common.{◌≡◌, ◌++◌}}
use Rattle.pim_model.{specs.Downstream.is_used}
use Rattle.pim_downstream.{specs.Naming.is_counted, proofs.GroupKeys.group_keys}
use Rattle.pim_downstream.proofs.named.Named.of.Given as goal

abbrev pub invariant-loop-group : goal.invariant-loop-group
invariant-loop-group l = record {
  joined : l.joined.items ++ group_keys (is_counted l.world) (λ g. g.joins) l.iface.number l.group-iterator
      ≡ group_keys (is_counted l.world) (λ g. g.joins) l.iface.number l.message.groups;
  pruned : l.pruned.items ++ group_keys is_used (λ g. g.prunes) l.iface.number l.group-iterator
      ≡ group_keys is_used (λ g. g.prunes) l.iface.number l.message.groups;
}
