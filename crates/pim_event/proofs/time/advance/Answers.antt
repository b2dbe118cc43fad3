use Rattle.std.{proofs.Common.{◌+◌, ◌*◌, ◌≤◌, ◌++◌, List, Ok, ap, length, sym, subst, ◌∙◌}}
use Rattle.pim_types.{specs.declared.outcome.{Emission.Emission, Outcome.Outcome, Verdict.Verdict}}
use Rattle.pim_fanout.{specs.{Disturbed.joined, Refreshing.{CacheValue, touches}}}
use Rattle.pim_mfc.{specs.Laws.ShowsRows}
use Rattle.pim_model.{specs.{Cache.cached, Firing.fire_all, Reach.told_all, State.State, Step.advanced}}
use Rattle.law_events.{specs.{Locality.IsQuiet, Named.named_by}}
use Rattle.pim_event.{specs.{Caching.CacheFollows, Disturbing.{disturbed_at, ended_all, joined_all}, Staying.StaysBeside}, proofs.{Rows.rows_present, Staying.stays_present}}
use Rattle.law_settled.{specs.{Laws.IsReady, Ready.IsLawful}, proofs.FiringLaws.ahead_is_ready}
use Rattle.pim_event.proofs.time.advance.Goals as goal

pub fire_all-requires-clause-lawful : goal.fire_all-requires-clause-lawful
fire_all-requires-clause-lawful c = subst IsLawful (sym c.keep_next.ensures) (record {
  ordered = c.requires.rest.settled.ordered;
  firable = c.requires.rest.settled.ahead.firable;
  tidy = c.requires.rest.settled.tidy;
})

pub fire_all-requires-clause-quiet : goal.fire_all-requires-clause-quiet
fire_all-requires-clause-quiet c = subst IsQuiet (sym c.keep_next.ensures) c.requires.rest.quiet

pub fire_all-requires-clause-shown : goal.fire_all-requires-clause-shown
fire_all-requires-clause-shown c =
    subst (λ (s : State). ShowsRows c.args.core.now.cache.mfc.rows (cached s)) (sym c.keep_next.ensures) c.requires.shown

pub fire_all-requires-clause-ready : goal.fire_all-requires-clause-ready
fire_all-requires-clause-ready c =
    subst (λ (s : State). IsReady s.present s) (sym c.keep_next.ensures)
    (ahead_is_ready c.args.core.now.world.present c.args.core.now.world c.requires.rest.settled.ahead)

pub returns : goal.returns
unfolding touches advanced
returns c =
    let draw = c.args.turn.now.draw in
    let same = c.keep_next.ensures in
    let follows = subst (λ (s : State). CacheFollows s c.fire_all.new.core.world
    (told_all named_by draw c.args.moment s).1 c.args.core.now.cache c.fire_all.new.core.cache) same
    c.in_ok-fire_all.ensures.cache in
    let left = c.list_once.ensures.kept in
    let names = (told_all named_by draw c.args.moment c.args.core.now.world).1 in
    record {
      outcome = ap (λ (es : List Emission). let o : Outcome = record { answer = Ok Verdict.Done; emissions = es; copies = 0 } in o)
          (c.from_vec.ensures ∙ c.in_ok-fire_all.ensures.sent
          ∙ ap (λ (es : List Emission). es ++ (fire_all draw c.args.moment c.keep_next.new.self).1) c.new-emissions.ensures.items
          ∙ ap (λ (s : State). (fire_all draw c.args.moment s).1) same);
      state = c.set_present.ensures ∙ ap (λ (s : State). record s { present = c.args.moment })
          (c.in_ok-fire_all.ensures.state ∙ ap (λ (s : State). (fire_all draw c.args.moment s).0) same);
      cache = record {
        shown = subst (λ (k : CacheValue). ShowsRows k.mfc.rows (cached c.set_present.new.self)) (sym left)
            (rows_present c.fire_all.new.core.world c.set_present.new.self c.args.moment c.fire_all.new.core.cache.mfc.rows
            c.interfaces.result.now c.interfaces.ensures c.proof_few.ensures c.set_present.ensures follows.shown);
        few = subst (λ (k : CacheValue). touches k ≤ touches c.args.core.now.cache + 2 * length names) (sym left) follows.few;
        listed = λ g src. c.list_once.ensures.same g src ∙ follows.listed g src;
        stays = λ o stays. stays_present o c.fire_all.new.core.world c.set_present.new.self c.args.moment
            c.list_once.new.self.disturbed c.set_present.ensures
            (subst (λ (k : CacheValue). StaysBeside k.disturbed o c.fire_all.new.core.world) (sym left) (follows.stays o stays));
      };
      disturbed = ap (λ (k : CacheValue). k.disturbed) left ∙ c.in_ok-fire_all.ensures.disturbed
          ∙ ap (λ (s : State). joined c.args.core.now.cache.disturbed
          (joined_all (ended_all disturbed_at draw c.args.moment s).1)) same;
      once = c.list_once.ensures.once;
      replaced = c.in_ok-fire_all.ensures.kept;
      fault = tt;
    }
