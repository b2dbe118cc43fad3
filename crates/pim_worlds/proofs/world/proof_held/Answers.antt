use Rattle.pim_worlds.{proofs.Taken.taken}
use Rattle.pim_worlds.proofs.world.proof_held.Goals as goal

pub returns : goal.returns
returns c = λ accepted.
    taken c.args.world.now accepted c.proof_candidates.ensures (rw c.interfaces.ensures at c.proof_kinds.ensures)
    (rw c.membership.ensures at c.proof_kinds-2.ensures) (rw c.store.ensures at c.proof_kinds-3.ensures)
    (rw c.present.ensures.present at c.present.ensures.within) (rw c.settings.ensures.value at c.settings.ensures.least)
    (rw c.settings.ensures.value at c.settings.ensures.most) (rw c.settings.ensures.value at c.settings.ensures.interval)
