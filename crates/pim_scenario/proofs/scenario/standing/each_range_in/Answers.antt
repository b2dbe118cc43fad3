-- Each text in turn is read.
use Rattle.std.{proofs.Common.{arith, sym}}
use Rattle.pim_scenario.{specs.Standing.WritesRange, proofs.{ReadLemmas.{more_read, all_read, none_read}, StandingLemmas.{no_range, no_range_text}}}
use Rattle.pim_scenario.proofs.scenario.standing.each_range_in.Goals as goal

pub loop-text-preserved : goal.loop-text-preserved
loop-text-preserved c =
    more_read WritesRange c.args.texts.now _ _ _ c.text-item.result _ (omega arith) c.text-item.is c.in_ok-push.ensures.ok
    c.loop-text.invariant (_, sym c.in_ok-text_of.ensures, c.in_ok-read_range.ensures)

pub returns : goal.returns
returns c = all_read WritesRange c.args.texts.now c.loop-text.text-index _ (omega arith) c.loop-text.invariant

pub returns-in_err-text_of : goal.returns-in_err-text_of
returns-in_err-text_of c =
    none_read WritesRange c.args.texts.now c.loop-text.text-index c.text-item.result _ (omega arith) c.text-item.is
    (no_range_text _ c.in_err-text_of.ensures) c.from_residual.ensures.1

pub returns-in_err-read_range : goal.returns-in_err-read_range
returns-in_err-read_range c =
    none_read WritesRange c.args.texts.now c.loop-text.text-index c.text-item.result _ (omega arith) c.text-item.is
    (no_range _ _ c.in_ok-text_of.ensures c.in_err-read_range.ensures) c.from_residual-in_err-read_range.ensures.1
