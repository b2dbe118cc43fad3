use Rattle.std.{proofs.{Common.arith, lemmas.Grind.common_steps}}
use Rattle.pim_event.proofs.rendezvous.SourceAtRp.list.Goals as goal

pub returns-else-is_null-clause-interfaces : goal.returns-else-is_null-clause-interfaces
returns-else-is_null-clause-interfaces c s g src h i =
    let spt = h.spt in
    let list = h.list i in
    grind (arith, common_steps)
