use Rattle.std.{proofs.Common.{◌≡◌, ℕ, ◌+◌, ◌-◌, drop, refl, sym, ◌∙◌, ap, arith}}
use Rattle.pim_model.{specs.Limits.are_distinct_candidates}
use Rattle.pim_mrib.{proofs.Distinct.{none_twice, still, twice}}
use Rattle.pim_mrib.proofs.limits.are_distinct_candidates.Goals as goal

pub loop-left-init : goal.loop-left-init
loop-left-init c = record { within = omega arith; distinct = none_twice c.args.candidates.now }

pub returns-then-is_listed : goal.returns-then-is_listed
returns-then-is_listed c =
    let place : ℕ = c.loop-left.left - 1 in
    sym (twice c.args.candidates.now place (place + 1) _ _ refl (omega (arith, c.loop-left.invariant.within)) refl
    (sym c.is_listed.ensures ∙ c.if-is_listed.true))

pub loop-left-preserved : goal.loop-left-preserved
loop-left-preserved c =
    let place : ℕ = c.loop-left.left - 1 in
    let same : place + 1 ≡ c.loop-left.left = omega arith in
    record {
      within = omega (arith, c.loop-left.invariant.within);
      distinct =
          still c.args.candidates.now place (place + 1) _ _ refl (omega (arith, c.loop-left.invariant.within)) refl
          (sym c.is_listed.ensures ∙ c.if-is_listed.false)
          (ap (λ (n : ℕ). are_distinct_candidates (drop n c.args.candidates.now)) same ∙ c.loop-left.invariant.distinct);
    }
