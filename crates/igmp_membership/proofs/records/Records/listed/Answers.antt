use Rattle.std.{proofs.Common.{option_map, ◌∙◌}}
use Rattle.pim_model.{specs.Tables.{has_row, row_at}}
use Rattle.pim_source_trie.{specs.Entries.address_bits}
use Rattle.igmp_membership.{proofs.Told.{running_told, there_told}, specs.Listing.{There, Running, record_key}}
use Rattle.igmp_membership.proofs.records.Records.listed.Goals as goal

pub returns-clause-there : goal.returns-clause-there
unfolding has_row
returns-clause-there g c = rw (← c.self.view_is) (λ i.
    c.get.ensures.sides There i
    ∙ c.self.invariant.told There i c.args.group.bits (option_map address_bits c.args.source)
    ∙ there_told g.R.Record.runs (row_at c.self.inside.rows (record_key i c.args.group c.args.source)))

pub returns-clause-running : goal.returns-clause-running
returns-clause-running g c = rw (← c.self.view_is) (λ i.
    c.get.ensures.sides Running i
    ∙ c.self.invariant.told Running i c.args.group.bits (option_map address_bits c.args.source)
    ∙ running_told g.R.Record.runs (row_at c.self.inside.rows (record_key i c.args.group c.args.source)))
