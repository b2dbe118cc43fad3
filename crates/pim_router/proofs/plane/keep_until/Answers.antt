use Rattle.std.{proofs.lemmas.Result.on_ok_weaker}
use Rattle.pim_types.{specs.Keys.source_key}
use Rattle.pim_model.{specs.{Sets.spt_bit, Tables.{put, row_at}}}
use Rattle.law_plane.{specs.Keeping.kept_until}
use Rattle.pim_store.{specs.PimTables.{PimTables, kept_alive}}
use Rattle.pim_state.{proofs.Lent.stored_on_ok}
use Rattle.pim_router.proofs.plane.keep_until.Goals as goal

pub returns-clause-state : goal.returns-clause-state
unfolding kept_until spt_bit
returns-clause-state c =
    let key = source_key 0 c.args.name.group.bits c.args.name.source.bits in
    stored_on_ok c.args.world.now c.keep_alive.result _ _
    (λ (f : PimTables). record f { sources = put f.sources key (kept_alive c.args.end (row_at f.sources key)) })
    c.store_mut.ensures.value c.keep_alive.ensures.state

pub returns-clause-unvisited : goal.returns-clause-unvisited
returns-clause-unvisited c =
    on_ok_weaker c.keep_alive.result (λ kept. kept c.requires) (rw c.store_mut.ensures.value at c.keep_alive.ensures.kept)
