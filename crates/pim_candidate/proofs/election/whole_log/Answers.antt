use Rattle.std.{proofs.{Common.{◌≡◌, ℕ, sym, ap, ◌∙◌, arith}, lemmas.Nat.one_shl}}
use Rattle.pim_candidate.{specs.Election.whole_log, proofs.Logs.{found_log, lower_log, no_log}}
use Rattle.pim_candidate.proofs.election.whole_log.Goals as goal

pub loop-power-preserved : goal.loop-power-preserved
loop-power-preserved c =
    let power : ℕ = c.loop-power.power in
    record {
      value = lower_log power c.args.number (omega arith) (omega (arith, one_shl power 64 (omega arith))) ∙ c.loop-power.invariant.value;
      small = omega arith;
    }

pub returns-else-number-power-clause-value : goal.returns-else-number-power-clause-value
returns-else-number-power-clause-value c =
    let power : ℕ = c.loop-power.power in
    sym (found_log power c.args.number (omega (arith, one_shl power 64 (omega arith)))) ∙ c.loop-power.invariant.value

pub returns-after-loop-power-clause-value : goal.returns-after-loop-power-clause-value
returns-after-loop-power-clause-value c =
    let none : c.loop-power.power ≡ 0 = omega arith in
    none ∙ sym (no_log c.args.number) ∙ ap (λ (k : ℕ). whole_log k c.args.number) (sym none) ∙ c.loop-power.invariant.value
