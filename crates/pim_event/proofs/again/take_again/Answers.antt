use Rattle.std.{proofs.{Common.{None, ap, ◌∙◌, ℕ}, lemmas.Result.on_ok_weaker}}
use Rattle.pim_types.{specs.declared.fact.DownstreamRow.DownstreamRow}
use Rattle.pim_model.{specs.Downstream.holdtime_end_from}
use Rattle.pim_plan.{specs.Rejoining.rows_put, proofs.Rejoined.takes_ends}
use Rattle.pim_event.proofs.again.take_again.Goals as goal

pub returns : goal.returns
returns c =
    let end = c.holdtime_end.ensures ∙ ap (λ (n : ℕ). holdtime_end_from n c.args.holdtime) c.present.ensures.present in
    on_ok_weaker c.put_rows.result
    (λ taken. taken
    ∙ (λ j. let row : DownstreamRow = record { expiry = end j; pending = None } in
    rows_put row c.args.world.now (c.deref.ensures.value j))
    ∙ takes_ends c.args.world.now c.args.iface.number c.args.holdtime c.args.named.now.joined.items c.args.named.now.pruned.items
    c.requires.again c.requires.ordered) c.put_rows.ensures
