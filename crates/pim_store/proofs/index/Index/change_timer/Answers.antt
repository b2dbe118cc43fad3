use Rattle.std.{proofs.Common.{Some, sym, ◌∙◌}}
use Rattle.pim_source_trie.{specs.Entries.entry_key}
use Rattle.pim_store.{proofs.{Lowered.not_there, Timers.{changed_on, no_timer_astray, no_timer_under}}, specs.Said.timers_in}
use Rattle.pim_store.proofs.index.Index.change_timer.Goals as goal

pub set_known-requires : goal.set_known-requires
set_known-requires g c = record {
  as_said = c.get-marks.ensures.marks;
  bare = c.get-marks.ensures.bare;
  timer = c.get-marks.ensures.row;
}

pub returns-in_default-clause-changed : goal.returns-in_default-clause-changed
returns-in_default-clause-changed g c =
    not_there c.args.key (timers_in c.args.self.now) (λ before. Some (g.C.Change.after c.args.change before))
    (no_timer_under c.args.self.now c.get-marks.ensures.ascending c.get-marks.ensures.entries c.args.key
    (sym c.get-marks.ensures.row ∙ c.in_default.is))

pub returns-then-not-is_placed-clause-changed : goal.returns-then-not-is_placed-clause-changed
returns-then-not-is_placed-clause-changed g c =
    not_there c.args.key (timers_in c.args.self.now) (λ before. Some (g.C.Change.after c.args.change before))
    (no_timer_astray c.args.self.now c.get-marks.ensures.ascending c.get-marks.ensures.entries c.args.key
    (sym c.is_placed.ensures ∙ c.if-not-is_placed.true))

pub returns-clause-changed : goal.returns-clause-changed
returns-clause-changed g c =
    changed_on c.args.self.now c.set_known.new.self c.get-marks.ensures.ascending c.args.key
    (entry_key c.args.key.group c.args.key.source) (sym c.is_placed.ensures ∙ c.if-not-is_placed.false)
    (g.C.Change.after c.args.change) c.in-Some.before c.after.result (sym c.get-marks.ensures.row ∙ c.in-Some.is)
    c.after.ensures c.set_known.result c.set_known.ensures.set
