use Rattle.law_states.{specs.Reload.config_of}
use Rattle.pim_worlds.{proofs.Held.{made_is, never_none, placed_held, placed_ordered}}
use Rattle.pim_worlds.proofs.placed_world.world_at.Goals as goal

pub unreachable-requires : goal.unreachable-requires
unfolding config_of
unreachable-requires c =
    never_none c.in_ok-made.field-0 _ _ c.in_ok-state.ensures c.in_ok-made.ensures.none c.in-None.is
    (placed_held c.args.world.now c.args.places.now (config_of c.args.next.now) c.requires.lead c.requires.accepted
    c.proof_candidates.ensures
    (rw c.interfaces.ensures at c.proof_kinds.ensures) (rw c.membership.ensures at c.proof_kinds-2.ensures)
    (rw c.store.ensures at c.proof_kinds-3.ensures) (rw c.present.ensures.present at c.present.ensures.within)
    (rw c.settings.ensures.value at c.settings.ensures.least) (rw c.settings.ensures.value at c.settings.ensures.most)
    (rw c.settings.ensures.value at c.settings.ensures.interval))

pub returns-clause-placed : goal.returns-clause-placed
returns-clause-placed c =
    made_is c.in_ok-made.field-0 _ _ c.in-Some.made c.in_ok-state.ensures c.in_ok-made.ensures.made c.in-Some.is
    (placed_ordered c.args.world.now c.args.places.now (config_of c.args.next.now) (rw c.store-2.ensures at c.proof_rising.ensures))
