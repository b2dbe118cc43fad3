use Rattle.std.{proofs.Common.{subst, sym}}
use Rattle.pim_bsr.{specs.{Sound.IsSoundTable, Table.Table}, proofs.Sounder.nothing_sound}
use Rattle.pim_bsr.proofs.listener.Listener.new.Goals as goal

pub invariant_of-listener : goal.invariant_of-listener
invariant_of-listener c =
    subst (λ (t : Table). IsSoundTable c.args.configured.items c.args.limit t) (sym c.nothing.ensures)
    (nothing_sound c.args.configured.items c.args.limit)
