use Rattle.std.{proofs.Common.{ap, sym, ◌∙◌}, specs.Prelude.is_none}
use Rattle.pim_types.{specs.Keys.source_key}
use Rattle.pim_model.{specs.{Full.source_is_full, Tables.row_at}}
use Rattle.pim_store.{specs.PimTables.PimTables}
use Rattle.pim_register.{proofs.Needed.{full_without_room, not_full_with_room, told_none}}
use Rattle.pim_register.proofs.full.source_is_full.Goals as goal

pub returns-then-passes_limit : goal.returns-then-passes_limit
unfolding source_is_full
returns-then-passes_limit c =
    let s = c.args.world.now in
    let k = source_key 0 c.args.name.group.bits c.args.name.source.bits in
    told_none c.source.result c.is_none.result c.is_none.ensures
    ∙ ap is_none (c.source.ensures ∙ ap (λ (f : PimTables). row_at f.sources c.key.result) c.store.ensures
    ∙ ap (row_at s.sources) c.key.ensures)
    ∙ full_without_room s k (sym c.passes_limit.ensures ∙ c.if-passes_limit.true)

pub returns-else-passes_limit : goal.returns-else-passes_limit
unfolding source_is_full
returns-else-passes_limit c =
    let k = source_key 0 c.args.name.group.bits c.args.name.source.bits in
    c.if-passes_limit.false
    ∙ not_full_with_room c.args.world.now k (sym c.passes_limit.ensures ∙ c.if-passes_limit.false)
