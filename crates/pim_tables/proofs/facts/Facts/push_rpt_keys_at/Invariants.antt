use Rattle.std.{proofs.Common.{◌++◌, ◌&&◌, filter}}
use Rattle.pim_types.{specs.Keys.{is_of_group, is_on}}
use Rattle.pim_model.{specs.Tables.keys_in}
use Rattle.law_settled.{proofs.FoundRows.Keeps}
use Rattle.pim_tables.proofs.facts.Facts.push_rpt_keys_at.Given as goal

abbrev pub invariant-loop-key : goal.invariant-loop-key
invariant-loop-key g l =
    Keeps (λ e. e.0.rpt) (l.fn.keys.items ++ filter (λ k. is_on l.fn.iface.number k && k.rpt && is_of_group l.fn.group.bits k) (keys_in l.self))
    l.keys.items l.key-iterator
