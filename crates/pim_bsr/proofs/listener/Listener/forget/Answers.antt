use Rattle.std.{proofs.Common.{subst, sym}}
use Rattle.pim_bsr.{specs.{Sound.IsSoundTable, Table.Table}, proofs.Sounder.time_sound}
use Rattle.pim_bsr.proofs.listener.Listener.forget.Goals as goal

pub invariant_of-self : goal.invariant_of-self
invariant_of-self c =
    subst (λ (t : Table). IsSoundTable c.self.inside.configured.items c.self.inside.limit t) (sym c.forget.ensures)
    (time_sound c.args.moment c.self.inside.configured.items c.self.inside.limit c.self.inside.table c.self.invariant)
