use Rattle.std.{proofs.Common.ap}
use Rattle.pim_fanout.{specs.Refreshing.CacheValue}
use Rattle.pim_event.{proofs.Costs.none_touched}
use Rattle.pim_reloader.proofs.remove.take_down.Goals as goal

pub take_in-requires-clause-begun : goal.take_in-requires-clause-begun
take_in-requires-clause-begun c = record {
  rest = c.requires.rest;
  shown = rw (ap (λ (k : CacheValue). k.mfc) c.reset.ensures) c.requires.shown;
  uncounted = none_touched c.args.core.now.cache c.reset.new.self c.reset.ensures;
  unlisted = ap (λ (k : CacheValue). k.changed) c.reset.ensures;
  undisturbed = ap (λ (k : CacheValue). k.disturbed) c.reset.ensures;
  unreplaced = c.clear.ensures;
}

pub returns-clause-rests : goal.returns-clause-rests
returns-clause-rests c = record { rest = c.in_ok-outcome.ensures.rest; shown = c.in_ok-outcome.ensures.steps.cache.shown }
