use Rattle.std.{proofs.Common.{◌≡◌, arith, sym, ◌∙◌}}
use Rattle.pim_macros.{proofs.{NextInterface.{with_next, without_next}, interfaces.interfaces_where.Goals.{then-test, else-test}}}
use Rattle.pim_macros.proofs.interfaces.interfaces_where.Goals as goal

pub loop-number-preserved : goal.loop-number-preserved
loop-number-preserved g c p tells q =
    let n = c.loop-number.number in
    let told : c.test.result ≡ p n = tells n c.test.result (omega arith) c.test.ensures in
    let was = c.loop-number.invariant p tells q in
    elim c.if-test.branch [
      | then-test w ↦ rw w.set-is (with_next p n q _ _ (sym w.if-test.true ∙ told) was (w.insert.ensures.interfaces q))
      | else-test w ↦ rw w.set-is (without_next p n q _ (sym w.if-test.false ∙ told) was)
    ]
