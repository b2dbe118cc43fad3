use Rattle.std.{proofs.Common.{◌≡◌, drop}, specs.List.list_all}
use Rattle.pim_plan.{specs.Rejoining.is_again}
use Rattle.pim_plan.proofs.joins.repeats.Given as goal

abbrev pub invariant-loop-key : goal.invariant-loop-key
invariant-loop-key l =
    list_all (is_again l.world l.end) (drop l.key-index l.named.joined.items) ≡ list_all (is_again l.world l.end) l.named.joined.items
