use Rattle.std.{proofs.{Common.{Option, cond, is_some, ap, sym, ◌∙◌}, lemmas.Bool.true≢false}}
use Rattle.pim_timers.{specs.Ends.same_timer, proofs.{Entries.{get_contents, inserted, removed}, Held.{not_refused, surely}, Lookups.{get_inserted, get_removed}}}
use Rattle.std.specs.FinMap as map
use Rattle.pim_timers.proofs.moments.Moments.put_back.Goals as goal

pub returns-in-Some : goal.returns-in-Some
returns-in-Some c = λ q.
    let es = c.self.inside.moments.entries in
    let ok = not_refused c.insert.result c.insert.ensures.absent (λ none. true≢false (sym (rw (← c.self.view_is) at c.requires)
    ∙ ap is_some (get_contents es c.args.timer ∙ none))) in
    ap (λ s. map.get s q) (inserted es c.insert.new.self.entries c.args.timer c.in-Some.moment
    (surely c.insert.result ok c.insert.ensures.updates).0
    ∙ ap (λ s. map.insert s c.args.timer c.in-Some.moment) c.self.view_is)
    ∙ get_inserted c.args.self.now c.args.timer c.in-Some.moment q
    ∙ ap (λ (o : Option _). cond (same_timer q c.args.timer) o (map.get c.args.self.now q)) (sym c.in-Some.is)

pub returns-in-None : goal.returns-in-None
returns-in-None c = λ q.
    ap (λ s. map.get s q) (removed c.self.inside.moments.entries c.remove.new.self.entries c.args.timer
    c.remove.ensures.updates.0 ∙ ap (λ s. map.remove s c.args.timer) c.self.view_is)
    ∙ get_removed c.args.self.now c.args.timer q
    ∙ ap (λ (o : Option _). cond (same_timer q c.args.timer) o (map.get c.args.self.now q)) (sym c.in-None.is)
