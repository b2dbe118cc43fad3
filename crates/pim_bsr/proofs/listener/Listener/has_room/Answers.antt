use Rattle.std.{proofs.Common.subst}
use Rattle.pim_bsr.{specs.{Sound.IsSoundTable, Table.Known}}
use Rattle.pim_bsr.proofs.listener.Listener.has_room.Goals as goal

pub returns-clause-sound : goal.returns-clause-sound
returns-clause-sound c = subst (λ (k : Known). IsSoundTable k.static k.limit k.table) c.self.view_is c.self.invariant
