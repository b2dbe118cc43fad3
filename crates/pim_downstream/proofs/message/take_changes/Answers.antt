use Rattle.std.{proofs.Common.{List, Some, ap, filter, not, ◌&&◌, ◌∙◌}}
use Rattle.pim_types.{specs.declared.fact.Key.Key}
use Rattle.pim_model.{specs.{Downstream.{asserts_after_joins, is_named, row_after}, Sets.is_loser, State.State}}
use Rattle.pim_store.{specs.PimTables.PimTables}
use Rattle.pim_state.{proofs.Lent.stored}
use Rattle.pim_downstream.{proofs.{OnInterface.{changes_on, touched_on}, Rows.taken}}
use Rattle.pim_downstream.proofs.message.take_changes.Goals as goal

pub returns : goal.returns
unfolding asserts_after_joins
returns c =
    let named = c.args.named.now in
    let later = c.set_rows.new.world in
    let losses_ended : List Key → State = λ ks. record later { asserts = asserts_after_joins later ks } in
    taken c.args.world.now c.args.iface.number c.args.holdtime named.joined.items named.pruned.items
    c.args.changes.now later _ c.requires.changes c.in_ok-set_rows.ensures
    (stored later _ _ (λ (f : PimTables). record f {
      asserts = filter (λ e. not (is_loser (Some e.1) && is_named c.deref.result.now e.0)) f.asserts;
    }) c.store_mut.ensures.value c.end_losses.ensures
    ∙ ap losses_ended c.deref.ensures.value)

pub set_rows-requires-clause-on : goal.set_rows-requires-clause-on
set_rows-requires-clause-on c =
    let named = c.args.named.now in
    changes_on c.args.iface.number
    (row_after c.args.world.now c.args.iface.number c.args.holdtime named.joined.items named.pruned.items)
    _ c.args.changes.now
    (touched_on c.args.iface.number c.args.world.now named.joined.items named.pruned.items c.requires.joined
    c.requires.pruned)
    c.requires.changes
