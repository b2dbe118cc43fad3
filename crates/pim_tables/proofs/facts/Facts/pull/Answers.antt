use Rattle.std.{proofs.Common.◌∙◌}
use Rattle.pim_model.{specs.Tables.keys_in}
use Rattle.pim_types.{specs.Keys.{addr_cmp, key_cmp}}
use Rattle.law_settled.{proofs.RemovalLaws.removed_is_dropped}
use Rattle.pim_tables.proofs.facts.Facts.pull.Goals as goal

pub returns-clause-left : goal.returns-clause-left
unfolding keys_in key_cmp addr_cmp
returns-clause-left g c =
    rw (← c.self.view_is) (c.remove.ensures.entries
    ∙ removed_is_dropped c.args.key c.self.inside.rows.entries c.self.invariant)
