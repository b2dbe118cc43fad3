use Rattle.std.{proofs.Common.{ap, ◌∙◌}}
use Rattle.pim_model.{specs.Tables.drop_at}
use Rattle.igmp_membership.{proofs.Told.listed_dropped, specs.Listing.record_key}
use Rattle.igmp_membership.proofs.records.Records.remove.Goals as goal

pub invariant_of-self : goal.invariant_of-self
invariant_of-self g c =
    listed_dropped g.R.Record.runs g.R.Record.of_sources _ c.self.inside.rows c.self.invariant
    (record_key c.args.iface.number c.args.group c.args.source) _ _
    (c.remove.ensures ∙ ap (drop_at c.self.inside.rows) c.record_key.ensures) c.unlist.ensures
