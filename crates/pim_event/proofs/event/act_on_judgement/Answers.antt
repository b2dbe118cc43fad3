use Rattle.std.{proofs.{lemmas.Result.on_ok_weaker, Common.{◌≡◌, Err, IfOk, ap, refl, subst, sym, ◌∙◌}}}
use Rattle.pim_model.{specs.Judging.{Judged, judged}}
use Rattle.pim_plan.{specs.Naming.Brings}
use Rattle.pim_event.{proofs.{Costs.{is_cheap, untouched}, Replacing.none_replaced, Staying.offers_the_same, Disturbing.stopped_disturbs_none, Listing.{once_alone, stopped_names_none, unlisted}, Taking.{accepted_unsurely, stop_stays, stop_told}}, specs.Replacing.replaced_where}
use Rattle.pim_fanout.{specs.Refreshing.touches}
use Rattle.pim_event.proofs.event.act_on_judgement.Goals as goal

pub act_in_own_turn-requires : goal.act_in_own_turn-requires
act_in_own_turn-requires c = record {
  begun = c.requires.begun;
  heard = sym c.requires.heard ∙ c.in-Ok.is;
  table = subst (λ (j : Judged). IfOk j (λ a. Brings a c.args.table)) c.in-Ok.is c.requires.table;
}

pub returns-in-Ok-clause-steps : goal.returns-in-Ok-clause-steps
returns-in-Ok-clause-steps c =
    let turn = c.act_in_own_turn.ensures in
    record {
      outcome = turn.outcome;
      state = turn.state;
      cache = on_ok_weaker c.act_in_own_turn.result
          (λ after. after (λ is. absurd (c.requires.undecided.other is)) c.requires.undecided.answers) turn.cache;
      replaced = turn.replaced;
      fault = turn.fault;
    }

pub returns-in-Ok-clause-sure : goal.returns-in-Ok-clause-sure
returns-in-Ok-clause-sure c =
    accepted_unsurely c.args.core.now.world c.args.event.now c.args.judgement c.in-Ok.accepted c.act_in_own_turn.result
    c.requires.heard c.in-Ok.is

pub returns-in-Err-clause-steps : goal.returns-in-Err-clause-steps
returns-in-Err-clause-steps c =
    let heard : judged c.args.core.now.world c.args.event.now.kind ≡ Err c.in-Err.stop = sym c.requires.heard ∙ c.in-Err.is in
    record {
      outcome = c.stopped.ensures ∙ stop_told c.args.core.now.world c.args.event.now c.in-Err.stop heard;
      state = stop_stays c.args.core.now.world c.args.event.now c.in-Err.stop heard;
      cache = record {
        shown = c.requires.begun.shown;
        cheap = is_cheap c.args.core.now.world c.requires.begun.rest c.args.event.now c.args.meter.now
            (touches c.args.core.now.cache) (λ is. absurd (c.requires.undecided.other is))
            (untouched (touches c.args.core.now.cache) c.args.core.now.world c.args.event.now c.requires.begun.uncounted);
        listed = unlisted c.args.core.now.cache.changed c.args.core.now.world c.args.event.now c.requires.begun.unlisted
            (stopped_names_none c.args.core.now.world c.args.event.now c.in-Err.stop heard);
        once = once_alone c.args.core.now.cache.changed c.requires.begun.unlisted;
        disturbs = stopped_disturbs_none c.args.core.now.world c.args.event.now c.in-Err.stop c.args.core.now.cache.disturbed
            heard c.requires.begun.undisturbed;
        stays = offers_the_same c.args.core.now.world c.args.core.now.world c.args.core.now.cache.disturbed refl;
      };
      replaced = none_replaced c.args.core.now.world c.args.event.now c.args.core.now.replaced
          (ap (replaced_where c.args.core.now.world) heard) c.requires.begun.unreplaced;
      fault = tt;
    }
