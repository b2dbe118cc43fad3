use Rattle.std.{proofs.Common.{ap, ◌∙◌}}
use Rattle.pim_downstream.{proofs.Judged.{all_changed, all_moved}}
use Rattle.pim_downstream.proofs.effect.Effect.of.Goals as goal

pub returns-clause-changes : goal.returns-clause-changes
returns-clause-changes c =
    all_changed c.args.world.now c.args.iface.number c.args.holdtime c.args.named.now.joined.items
    c.args.named.now.pruned.items _ _ (ap (λ n. n.joined.items) c.in_ok-indexed.ensures)
    (ap (λ n. n.pruned.items) c.in_ok-indexed.ensures) c.deref.result.now c.deref-2.result.now c.deref-4.result.now
    c.deref-3.result.now _ c.deref.ensures.value c.deref-2.ensures.value c.new-others.ensures.items c.deref-3.ensures.value
    (c.deref-4.ensures.value ∙ c.in_ok-push_rpt_rows.ensures) c.new-changes.result.items _ _ _ c.new-changes.ensures.items
    c.in_ok-judge_keys.ensures.changes c.in_ok-judge_keys-2.ensures.changes c.in_ok-judge_keys-3.ensures.changes

pub returns-clause-moved : goal.returns-clause-moved
returns-clause-moved c =
    c.from_vec.ensures
    ∙ all_moved c.args.world.now c.args.iface.number c.args.holdtime c.args.named.now.joined.items
    c.args.named.now.pruned.items _ _ (ap (λ n. n.joined.items) c.in_ok-indexed.ensures)
    (ap (λ n. n.pruned.items) c.in_ok-indexed.ensures) c.deref.result.now c.deref-2.result.now c.deref-4.result.now
    c.deref-3.result.now _ c.deref.ensures.value c.deref-2.ensures.value c.new-others.ensures.items c.deref-3.ensures.value
    (c.deref-4.ensures.value ∙ c.in_ok-push_rpt_rows.ensures) c.new-moved.result.items _ _ _ c.new-moved.ensures.items
    c.in_ok-judge_keys.ensures.moved c.in_ok-judge_keys-2.ensures.moved c.in_ok-judge_keys-3.ensures.moved
