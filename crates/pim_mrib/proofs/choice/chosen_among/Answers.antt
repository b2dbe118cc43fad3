use Rattle.std.proofs.Common.{◌-◌, Some, ap, refl, sym, ◌∙◌, arith}
use Rattle.pim_types.{specs.declared.config.RpCandidate.RpCandidate}
use Rattle.pim_mrib.{proofs.Scan.{none_yet, passed, taken}}
use Rattle.pim_mrib.proofs.choice.chosen_among.Goals as goal

pub loop-left-init : goal.loop-left-init
loop-left-init c = record { within = omega arith; best = none_yet c.args.candidates.now c.args.group.bits }

pub loop-left-preserved-then-contains : goal.loop-left-preserved-then-contains
loop-left-preserved-then-contains c = record {
  within = omega (arith, c.loop-left.invariant.within);
  best = ap (λ (r : RpCandidate). Some r) c.chosen.ensures
      ∙ taken c.args.candidates.now c.args.group.bits (c.loop-left.left - 1) c.loop-left.left _ _ c.loop-left.best (omega arith)
      (omega (arith, c.loop-left.invariant.within)) refl c.loop-left.invariant.best (sym c.contains.ensures ∙ c.if-contains.true);
}

pub loop-left-preserved : goal.loop-left-preserved
loop-left-preserved c = record {
  within = omega (arith, c.loop-left.invariant.within);
  best = passed c.args.candidates.now c.args.group.bits (c.loop-left.left - 1) c.loop-left.left _ _ c.loop-left.best (omega arith)
      (omega (arith, c.loop-left.invariant.within)) refl c.loop-left.invariant.best (sym c.contains.ensures ∙ c.if-contains.false);
}
