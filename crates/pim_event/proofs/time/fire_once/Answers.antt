use Rattle.std.{proofs.Common.{ap, ◌∙◌}, specs.Prelude.if◌then◌else◌}
use Rattle.pim_model.{specs.{Firing.fire_once, Reach.own_firing}}
use Rattle.pim_state.{specs.{Turns.Taking, declared.touched.Touched.Touched}}
use Rattle.pim_fanout.{specs.{Refreshing.touches, Disturbed.joined}}
use Rattle.pim_event.{proofs.{Listing.listed_fired, Staying.stays_fired, Rows.{cost_fired, rows_fired, touches_named}}, specs.Ends.{ending_of, touched_by_end}}
use Rattle.pim_event.proofs.time.fire_once.Goals as goal

pub returns-clause-cache : goal.returns-clause-cache
returns-clause-cache c = record {
  shown = rows_fired c.args.core.now.world c.args.turn.now.draw (ending_of c.args.due)
      (touched_by_end c.args.core.now.world c.args.due.1.kind c.args.due.1.key) c.in_ok-names.names
      c.in_ok-names.ensures.names c.fire_world.new.world c.args.core.now.cache.mfc.rows c.refresh.new.self.mfc.rows
      c.interfaces.result.now c.requires.quiet c.interfaces.ensures c.proof_few.ensures
      (c.in_ok-names.ensures.state ∙ ap (λ w. (fire_once w c.args.core.now.world (ending_of c.args.due)).0)
      (ap (λ (t : Taking). t.draw) c.turn.view_is))
      c.in_ok-refresh.ensures.shown c.requires.shown;
  few = cost_fired c.args.core.now.world c.args.turn.now.draw (ending_of c.args.due)
      (touched_by_end c.args.core.now.world c.args.due.1.kind c.args.due.1.key) c.in_ok-names.names
      c.in_ok-names.ensures.names c.fire_world.new.world (touches c.args.core.now.cache) (touches c.refresh.new.self)
      c.in_ok-refresh.ensures.few;
  listed = listed_fired c.args.core.now.world (ending_of c.args.due)
      (touched_by_end c.args.core.now.world c.args.due.1.kind c.args.due.1.key) c.in_ok-names.names
      c.in_ok-names.ensures.names c.requires.quiet c.args.core.now.cache.changed c.refresh.new.self.changed
      c.in_ok-refresh.ensures.listed;
  stays = λ o stays.
      stays_fired o c.args.core.now.world c.fire_world.new.world c.args.turn.now.draw (ending_of c.args.due)
      (touched_by_end c.args.core.now.world c.args.due.1.kind c.args.due.1.key) c.in_ok-names.ensures.names.covers
      c.requires.quiet c.interfaces.result.now c.interfaces.ensures c.proof_few.ensures
      (c.in_ok-names.ensures.state ∙ ap (λ w. (fire_once w c.args.core.now.world (ending_of c.args.due)).0)
      (ap (λ (t : Taking). t.draw) c.turn.view_is))
      c.end_moves_dr-moves_dr.result c.end_moves_dr-moves_dr.ensures c.args.core.now.cache.disturbed c.refresh.new.self.disturbed
      (c.in_ok-refresh.ensures.disturbed
      ∙ ap (λ (t : Touched). joined c.args.core.now.cache.disturbed t) (c.disturbed_where.ensures
      ∙ ap (λ (t : Touched). if c.end_moves_dr-moves_dr.result then Touched.All else t) c.in_ok-touched.ensures))
      stays;
}

pub returns-clause-disturbed : goal.returns-clause-disturbed
returns-clause-disturbed c =
    c.in_ok-refresh.ensures.disturbed
    ∙ ap (λ (t : Touched). joined c.args.core.now.cache.disturbed t) (c.disturbed_where.ensures
    ∙ (λ j. if c.end_moves_dr-moves_dr.ensures j then Touched.All else c.in_ok-touched.ensures j))

pub returns-clause-touched : goal.returns-clause-touched
returns-clause-touched c =
    touches_named c.args.core.now.world (own_firing c.args.core.now.world (ending_of c.args.due)) c.fire_world.new.world
    (touched_by_end c.args.core.now.world c.args.due.1.kind c.args.due.1.key) c.in_ok-names.names
    (touches c.args.core.now.cache) (touches c.refresh.new.self) c.in_ok-names.ensures.names
    c.in_ok-refresh.ensures.few
