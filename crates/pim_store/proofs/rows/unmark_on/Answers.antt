use Rattle.std.{proofs.Common.{refl, sym, ◌∙◌}}
use Rattle.pim_store.{proofs.Dropped.{all_unmarked, another, at_first, fits_here, unmarked_here}}
use Rattle.pim_store.proofs.rows.unmark_on.Goals as goal

pub loop-key-init : goal.loop-key-init
loop-key-init g c = record {
  unmarked = at_first g.R.TellsMarks.tells g.R.TellsMarks.says g.R.TellsMarks.fits c.args.iface.number _ _ _
      (c.into_iter-key-iterator.ensures.into_iter_gives ∙ c.iter-key-items.ensures ∙ c.rows.ensures) c.requires;
  timers = refl;
}

pub unmark-requires : goal.unmark-requires
unmark-requires g c =
    fits_here g.R.TellsMarks.tells g.R.TellsMarks.says g.R.TellsMarks.fits c.args.iface.number _ _ c.args.rows.now
    c.loop-key.key-iterator c.next.new.self c.in-Some.key.now c.in-Some.field-0-1.now c.loop-key.invariant.unmarked
    c.in-Some.ensures.steps c.requires

pub loop-key-preserved-then-eq : goal.loop-key-preserved-then-eq
loop-key-preserved-then-eq g c = record {
  unmarked = unmarked_here g.R.TellsMarks.tells g.R.TellsMarks.says g.R.TellsMarks.fits c.args.iface.number _ _ c.args.rows.now
      c.loop-key.key-iterator c.next.new.self c.in-Some.key.now c.in-Some.field-0-1.now c.loop-key.invariant.unmarked
      c.in-Some.ensures.steps _ (sym c.if-eq.ensures) c.unmark.ensures.marks;
  timers = c.unmark.ensures.timers ∙ c.loop-key.invariant.timers;
}

pub loop-key-preserved : goal.loop-key-preserved
loop-key-preserved g c = record {
  unmarked = another g.R.TellsMarks.tells g.R.TellsMarks.says g.R.TellsMarks.fits c.args.iface.number _ _ c.args.rows.now
      c.loop-key.key-iterator c.next.new.self c.in-Some.key.now c.in-Some.field-0-1.now c.loop-key.invariant.unmarked
      c.in-Some.ensures.steps (sym c.if-eq.ensures);
  timers = c.loop-key.invariant.timers;
}

pub returns-clause-told : goal.returns-clause-told
returns-clause-told g c =
    all_unmarked g.R.TellsMarks.tells g.R.TellsMarks.says g.R.TellsMarks.fits c.args.iface.number _ _ c.args.rows.now
    c.loop-key.key-iterator c.in-None.ensures.steps.0 c.loop-key.invariant.unmarked c.requires

pub returns-clause-others : goal.returns-clause-others
returns-clause-others g c = c.loop-key.invariant.unmarked.others

pub returns-clause-timers : goal.returns-clause-timers
returns-clause-timers g c = c.loop-key.invariant.timers
