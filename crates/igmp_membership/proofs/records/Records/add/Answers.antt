use Rattle.std.{proofs.Common.{Some, ap, ◌∙◌}}
use Rattle.pim_model.{specs.Tables.drop_at}
use Rattle.igmp_membership.{proofs.Told.{listed_put, listed_refused}}
use Rattle.igmp_membership.proofs.records.Records.add.Goals as goal

pub add-requires : goal.add-requires
add-requires g c = rw (← c.self.view_is) at c.requires.absent

pub invariant_of-self-in-Err : goal.invariant_of-self-in-Err
invariant_of-self-in-Err g c =
    listed_refused g.R.Record.runs g.R.Record.of_sources _ c.self.inside.rows c.self.invariant c.args.key
    (Some (g.R.Record.runs c.args.row)) _ _ _
    (c.drop_listed.ensures.removed ∙ ap (λ t. drop_at t c.args.key) c.in-Err.ensures.err)
    c.in_ok-list_record.ensures.ok c.drop_listed.ensures.unlisted

pub invariant_of-self-in_default : goal.invariant_of-self-in_default
invariant_of-self-in_default g c =
    listed_put g.R.Record.runs g.R.Record.of_sources _ c.self.inside.rows c.self.invariant c.args.key c.args.row _ _
    c.requires.fit c.requires.kind c.in_default.ensures.ok c.in_ok-list_record.ensures.ok
