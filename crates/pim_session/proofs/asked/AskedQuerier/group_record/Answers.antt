use Rattle.std.{proofs.Common.◌∙◌}
use Rattle.pim_types.{specs.Keys.star_key}
use Rattle.pim_session.{proofs.Taking.record_of}
use Rattle.pim_session.proofs.asked.AskedQuerier.group_record.Goals as goal

pub returns : goal.returns
returns c = rw (← c.self.view_is)
    (c.group_record.ensures ∙ record_of c.self.inside.router.now.standing (star_key c.args.iface.number c.args.group.bits))
