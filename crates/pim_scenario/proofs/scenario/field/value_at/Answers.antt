-- The map of a table, seen as the table's members.
use Rattle.toml.{proofs.Views.table_get}
use Rattle.pim_scenario.proofs.scenario.field.value_at.Goals as goal

pub returns : goal.returns
returns c = table_get c.get.result c.args.key.now c.args.table.now.entries c.get.ensures.value
