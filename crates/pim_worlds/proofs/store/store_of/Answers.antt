use Rattle.std.{proofs.Common.{◌∙◌, ap}}
use Rattle.pim_store.{specs.PimTables.PimTables}
use Rattle.pim_worlds.{specs.Refilled.{all_refilled, tables_in}, proofs.Filled.all_filled}
use Rattle.pim_worlds.proofs.store.store_of.Goals as goal

pub returns-clause-made : goal.returns-clause-made
returns-clause-made c = λ rise.
    c.in_ok-put_all.ensures.put c.if-not-branch.false
    ∙ ap (λ (s : PimTables). all_refilled s (tables_in c.args.rows.now)) c.in_ok-store.ensures
    ∙ all_filled (tables_in c.args.rows.now) rise
