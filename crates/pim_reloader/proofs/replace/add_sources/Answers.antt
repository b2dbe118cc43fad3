use Rattle.std.{proofs.Common.{◌≡◌, ◌++◌, subst}, specs.Prelude.{List, OnOk, map}}
use Rattle.pim_types.{specs.{declared.fact.{Key.Key, SourceRow.SourceRow}, Keys.{group_in, source_in, source_key}}}
use Rattle.pim_fanout.{specs.Named.keys_of}
use Rattle.pim_reloader.proofs.replace.add_sources.Goals as goal

pub returns : goal.returns
returns c =
    subst (λ (rows : List (Key × SourceRow)). OnOk c.add_names.result (keys_of c.add_names.new.names.items
    ≡ keys_of c.args.names.now.items ++ map (λ e. source_key 0 (group_in e.0) (source_in e.0)) rows))
    (rw c.store.ensures at c.source_rows.ensures) c.add_names.ensures
