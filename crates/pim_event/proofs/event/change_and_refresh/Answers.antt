use Rattle.std.{specs.Prelude.if◌then◌else◌, proofs.Common.{Bool, ap, ◌∙◌}}
use Rattle.pim_state.{specs.declared.touched.Touched.Touched}
use Rattle.pim_fanout.{specs.{Disturbed.joined, Refreshing.touches}}
use Rattle.pim_model.{specs.Step.change}
use Rattle.pim_plan.{specs.Acting.act_event}
use Rattle.pim_event.{proofs.{Acts.timeless, Disturbing.disturbed_after, Listing.{listed_after, once_after}, Staying.stays_after, Rows.{cost_after, rows_after, touches_named}}}
use Rattle.pim_event.proofs.event.change_and_refresh.Goals as goal

pub returns-clause-turn : goal.returns-clause-turn
returns-clause-turn c = record {
  outcome = c.in_ok-outcome.ensures.outcome;
  state = c.in_ok-outcome.ensures.state;
  cache = record {
    shown = rows_after c.args.core.now.world c.args.turn.now.draw (act_event c.args.plan.act) (timeless c.args.plan.act)
        c.args.plan.touched c.in_ok-outcome.field-0.names c.in_ok-outcome.ensures.names c.change_world.new.world c.args.core.now.cache.mfc.rows
        c.refresh.new.self.mfc.rows c.interfaces.result.now c.requires.begun.rest.quiet
        c.interfaces.ensures c.proof_few.ensures c.in_ok-outcome.ensures.state
        c.in_ok-refresh.ensures.shown c.requires.begun.shown;
    few = cost_after c.args.core.now.world c.args.turn.now.draw (act_event c.args.plan.act) (timeless c.args.plan.act)
        c.args.plan.touched c.in_ok-outcome.field-0.names c.in_ok-outcome.ensures.names c.change_world.new.world (touches c.args.core.now.cache)
        (touches c.refresh.new.self) c.in_ok-refresh.ensures.few;
    listed = listed_after c.args.core.now.world c.args.turn.now.draw (act_event c.args.plan.act) (timeless c.args.plan.act) c.args.plan.touched
        c.in_ok-outcome.field-0.names c.in_ok-outcome.ensures.names c.requires.begun.rest.quiet c.args.core.now.cache.changed
        c.refresh.new.self.changed c.in_ok-refresh.ensures.listed;
    stays = λ o stays.
        stays_after o c.args.core.now.world c.change_world.new.world c.args.turn.now.draw (act_event c.args.plan.act) (timeless c.args.plan.act)
        c.args.plan.touched c.in_ok-outcome.ensures.names.covers c.requires.begun.rest.quiet c.interfaces.result.now
        c.interfaces.ensures c.proof_few.ensures c.in_ok-outcome.ensures.state c.args.core.now.cache.disturbed
        c.refresh.new.self.disturbed (c.in_ok-refresh.ensures.disturbed
        ∙ ap (λ (t : Touched). joined c.args.core.now.cache.disturbed t) (c.disturbed_where.ensures
        ∙ ap (λ (b : Bool). if b then Touched.All else c.args.plan.touched) c.moves_all-moves.ensures))
        stays;
  };
  disturbed = disturbed_after c.args.core.now.world c.args.turn.now.draw (act_event c.args.plan.act)
      (timeless c.args.plan.act) c.args.plan.touched c.args.core.now.cache.disturbed
      c.refresh.new.self.disturbed c.requires.plan.touches
      (c.in_ok-refresh.ensures.disturbed
      ∙ ap (λ (t : Touched). joined c.args.core.now.cache.disturbed t) (c.disturbed_where.ensures
      ∙ ap (λ (b : Bool). if b then Touched.All else c.args.plan.touched) c.moves_all-moves.ensures));
  once = once_after c.args.core.now.world (change c.args.core.now.world c.args.turn.now.draw (act_event c.args.plan.act)).state
      c.args.plan.touched c.in_ok-outcome.field-0.names c.in_ok-outcome.ensures.names c.args.core.now.cache.changed
      c.refresh.new.self.changed c.requires.begun.unlisted c.in_ok-refresh.ensures.listed;
  replaced = c.in_ok-outcome.ensures.replaced;
  fault = tt;
}

pub returns-clause-touched : goal.returns-clause-touched
returns-clause-touched c =
    touches_named c.args.core.now.world (change c.args.core.now.world c.args.turn.now.draw (act_event c.args.plan.act)).state
    c.change_world.new.world c.args.plan.touched c.in_ok-outcome.field-0.names
    (touches c.args.core.now.cache) (touches c.refresh.new.self) c.in_ok-outcome.ensures.names
    c.in_ok-refresh.ensures.few
