use Rattle.std.{proofs.Common.{◌++◌, ap, filter, refl, ◌∙◌}}
use Rattle.pim_model.{specs.Tables.keys_in}
use Rattle.law_settled.{proofs.FoundRows.{all_found, found, passed}}
use Rattle.pim_tables.{proofs.GroupKeys.rpt_keys_of_group}
use Rattle.pim_tables.proofs.facts.Facts.push_rpt_keys_at.Goals as goal

pub loop-key-init : goal.loop-key-init
loop-key-init g c =
    ap (λ t. c.args.keys.now.items ++ keys_in (filter (λ e. e.0.rpt) t))
    (c.into_iter-key-iterator.ensures.into_iter_gives ∙ c.rows_at-key-items.ensures)
    ∙ ap (λ ks. c.args.keys.now.items ++ ks) (rpt_keys_of_group c.args.iface.number c.args.group.bits c.args.self.now)

pub loop-key-preserved-in-Continue-1 : goal.loop-key-preserved-in-Continue-1
loop-key-preserved-in-Continue-1 g c =
    found (λ e. e.0.rpt) _ c.loop-key.keys.items c.push.new.self.items (c.in-Some.key.now, c.in-Some.field-0-1.now)
    c.loop-key.key-iterator c.next.new.self c.in-Some.key.now.rpt c.in-Some.ensures.steps c.in_ok-push.ensures.items refl
    c.if-key.true c.loop-key.invariant

pub loop-key-preserved : goal.loop-key-preserved
loop-key-preserved g c =
    passed (λ e. e.0.rpt) _ c.loop-key.keys.items (c.in-Some.key.now, c.in-Some.field-0-1.now) c.loop-key.key-iterator
    c.next.new.self c.in-Some.key.now.rpt c.in-Some.ensures.steps refl c.if-key.false c.loop-key.invariant

pub returns : goal.returns
returns g c =
    all_found (λ e. e.0.rpt) _ c.loop-key.keys.items c.loop-key.key-iterator c.in-None.ensures.steps.0 c.loop-key.invariant
