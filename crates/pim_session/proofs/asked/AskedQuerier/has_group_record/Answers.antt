use Rattle.std.{proofs.Common.◌∙◌}
use Rattle.pim_types.{specs.Keys.star_key}
use Rattle.pim_session.{proofs.Taking.has_record_of}
use Rattle.pim_session.proofs.asked.AskedQuerier.has_group_record.Goals as goal

pub returns : goal.returns
returns c = rw (← c.self.view_is)
    (c.has_group_record.ensures ∙ has_record_of c.self.inside.router.now.standing (star_key c.args.iface.number c.args.group.bits))
