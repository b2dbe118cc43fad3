use Rattle.std.{proofs.Common.{◌≡◌, drop}}
use Rattle.pim_model.{specs.Sets.is_loser}
use Rattle.pim_store.{proofs.Losses.staying, specs.PimTables.PimTables}
use Rattle.pim_store.proofs.store.Store.end_losses.Given as goal

abbrev pub invariant-loop-key : goal.invariant-loop-key
invariant-loop-key l =
    let before : PimTables = l.fn.self in
    let asserts = staying is_loser l.keys before.asserts in
    let left = staying is_loser (drop l.key-index l.keys) (l.self).asserts in
    record l.self { asserts = left } ≡ record before { asserts = asserts }
