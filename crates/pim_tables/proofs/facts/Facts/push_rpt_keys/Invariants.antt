use Rattle.std.{proofs.Common.{◌≡◌, ◌++◌}}
use Rattle.pim_model.{specs.Tables.keys_in}
use Rattle.pim_tables.{proofs.GroupKeys.rpt_keys_of}
use Rattle.pim_tables.proofs.facts.Facts.push_rpt_keys.Given as goal

abbrev pub invariant-loop-group : goal.invariant-loop-group
invariant-loop-group g l =
    l.keys.items ++ rpt_keys_of l.iface.number (keys_in l.self) l.group-iterator
    ≡ l.fn.keys.items ++ rpt_keys_of l.iface.number (keys_in l.self) l.groups.keys
