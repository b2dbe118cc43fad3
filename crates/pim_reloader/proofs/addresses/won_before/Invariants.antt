use Rattle.std.{proofs.Common.filter}
use Rattle.pim_model.{specs.Tables.keys_in}
use Rattle.law_settled.{proofs.FoundRows.Keeps}
use Rattle.law_states.{specs.Reloading.is_won_before}
use Rattle.pim_reloader.proofs.addresses.won_before.Given as goal

abbrev pub invariant-loop-key : goal.invariant-loop-key
invariant-loop-key l =
    Keeps (is_won_before l.world l.next.configured)
    (keys_in (filter (is_won_before l.world l.next.configured) l.fn.world.asserts)) l.keys.items l.key-iterator
