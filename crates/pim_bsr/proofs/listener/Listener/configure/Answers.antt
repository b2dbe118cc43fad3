use Rattle.std.{proofs.Common.{ap, subst, sym, ◌∙◌, List}}
use Rattle.pim_types.{specs.declared.config.RpRange.RpRange}
use Rattle.pim_bsr.{specs.{Sound.IsSoundTable, Table.{Table, room_beside}}, proofs.Sounder.fitting_sound}
use Rattle.pim_bsr.proofs.listener.Listener.configure.Goals as goal

pub invariant_of-self : goal.invariant_of-self
invariant_of-self c =
    subst (λ (t : Table). IsSoundTable c.args.ranges.items c.args.limit t) (sym c.fit.ensures)
    (fitting_sound c.self.inside.configured.items c.args.ranges.items c.self.inside.limit _ c.args.limit c.self.inside.table c.self.invariant
    (c.room_beside.ensures ∙ ap (λ (rs : List RpRange). room_beside c.args.limit rs) c.as_slice.ensures.value))
