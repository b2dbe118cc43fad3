use Rattle.std.{proofs.Common.{◌≡◌, ◌++◌, filter, map, not, take}}
use Rattle.law_events.{specs.JoinPrunes.moves_end}
use Rattle.pim_downstream.{specs.Naming.change_after}
use Rattle.pim_downstream.proofs.effect.judge_keys.Given as goal

abbrev pub invariant-loop-key : goal.invariant-loop-key
invariant-loop-key l = record {
  changed : l.changes.items ≡ l.fn.changes.items ++ map (change_after l.world l.iface.number l.holdtime l.named.joined.items
      l.named.pruned.items) (take l.key-index l.keys);
  moved : l.moved.items ≡ l.fn.moved.items ++ filter (λ k. not (moves_end l.world l.iface.number l.holdtime
      l.named.joined.items l.named.pruned.items k)) (take l.key-index l.keys);
}
