use Rattle.std.{proofs.{Common.ap, lemmas.Result.on_ok_weaker}}
use Rattle.pim_fanout.{specs.Refreshing.CacheValue}
use Rattle.pim_event.{proofs.Costs.none_touched}
use Rattle.pim_router.{proofs.Accepted.{accepted_next, near_next, stands_next}}
use Rattle.pim_router.proofs.router.take_next.Goals as goal

pub take_in-requires-clause-begun : goal.take_in-requires-clause-begun
take_in-requires-clause-begun c = record {
  rest = c.requires.stands.rest;
  shown = rw (ap (λ (k : CacheValue). k.mfc) c.reset.ensures) c.requires.stands.shown;
  uncounted = none_touched c.args.core.now.cache c.reset.new.self c.reset.ensures;
  unlisted = ap (λ (k : CacheValue). k.changed) c.reset.ensures;
  undisturbed = ap (λ (k : CacheValue). k.disturbed) c.reset.ensures;
  unreplaced = c.clear.ensures;
}

pub take_in-requires-clause-unvisited : goal.take_in-requires-clause-unvisited
take_in-requires-clause-unvisited c = λ frame. c.requires.unvisited

pub returns-clause-stands : goal.returns-clause-stands
returns-clause-stands c =
    let steps = c.take_in.ensures.steps in
    stands_next c.take_in.new.core c.take_in.result c.take_in.ensures.rest
    (on_ok_weaker c.take_in.result (λ after. after.shown) steps.cache)
    (accepted_next c.args.core.now.world c.take_in.new.core.world c.args.event.now c.take_in.result c.requires.stands.accepted steps.state)
    (near_next c.args.core.now.world c.take_in.new.core.world c.args.event.now c.take_in.result c.requires.stands.rest c.requires.stands.near
    steps.state)
