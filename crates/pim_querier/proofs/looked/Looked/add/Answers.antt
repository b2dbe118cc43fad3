use Rattle.std.{proofs.Common.{refl, sym, ◌∙◌}}
use Rattle.pim_filters.{specs.Members.member_entries}
use Rattle.pim_querier.{proofs.{Looking.added, Starting.then_ok}}
use Rattle.pim_querier.proofs.looked.Looked.add.Goals as goal

pub returns-then-not-is_at : goal.returns-then-not-is_at
returns-then-not-is_at c = c.start.ensures c.args.place.iface.number c.args.world.now.source_records c.requires.known

pub returns : goal.returns
returns c =
    then_ok c.put_members.result
    (λ e. added c.args.world.now c.args.place.iface.number c.args.place.group.bits c.args.moment c.start.new.self.end
    c.start.new.self.groups.items c.push.new.self.items c.args.place.group c.start.new.self.late.items _
    (member_entries c.args.members.now) refl (rw c.membership.ensures at c.proof_keyed_source_records.ensures)
    (sym c.is_at.ensures ∙ c.if-not-is_at.false) c.requires.late c.in_ok-push.ensures.items e
    (c.start.ensures c.args.place.iface.number c.args.world.now.source_records c.requires.known))
    c.put_members.ensures
