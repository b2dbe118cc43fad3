use Rattle.std.{proofs.Common.{◌≡◌, ap, sym, ◌∙◌}}
use Rattle.pim_worlds.{proofs.{Gathered.{gathered, passed_over}, numbers.push_where.Goals.{then-test+in_ok-push, else-test}}}
use Rattle.pim_worlds.proofs.numbers.push_where.Goals as goal

pub loop-number-preserved : goal.loop-number-preserved
loop-number-preserved g c p tells =
    let n = c.loop-number.number in
    let told : c.test.result ≡ p n = tells n c.test.result c.test.ensures in
    let was = c.loop-number.invariant p tells in
    elim c.if-test.branch [
      | then-test+in_ok-push w ↦
          gathered p c.args.out.now.items c.loop-number.out.items w.push.new.self.items _ n was w.in_ok-push.ensures.items
          (ap (λ v. v.items) w.out-is) (sym told ∙ w.if-test.true)
      | else-test w ↦
          passed_over p c.args.out.now.items c.loop-number.out.items _ n was (ap (λ v. v.items) w.out-is)
          (sym told ∙ w.if-test.false)
    ]
