use Rattle.std.{proofs.Common.{ap, sym, ◌∷◌, ◌++◌, [], ◌∙◌}}
use Rattle.pim_types.{specs.declared.outcome.Emission.Emission}
use Rattle.pim_bsr.{specs.Hearing.passed_on, proofs.{Told.{told_else, told_then}, listener.standing.send_own.Goals.{then-has_neighbours+in_ok-passed_on+in_ok-push, else-has_neighbours}}}
use Rattle.pim_bsr.proofs.listener.standing.send_own.Goals as goal

pub loop-number-preserved : goal.loop-number-preserved
loop-number-preserved g c =
    let around = g.S.Surroundings.around c.args.around.now in
    elim c.if-has_neighbours.branch [
      | then-has_neighbours+in_ok-passed_on+in_ok-push w ↦
          told_then (passed_on around c.args.bytes.now) around.linked c.args.out.now.items
          c.loop-number.out.items w.push.new.self.items _ c.loop-number.number c.loop-number.invariant
          (w.in_ok-push.ensures.items ∙ ap (λ (e : Emission). c.loop-number.out.items ++ e ∷ []) w.in_ok-passed_on.ensures)
          (ap (λ v. v.items) w.out-is) (sym c.has_neighbours.ensures ∙ w.if-has_neighbours.true)
      | else-has_neighbours w ↦
          told_else (passed_on around c.args.bytes.now) around.linked c.args.out.now.items
          c.loop-number.out.items _ c.loop-number.number c.loop-number.invariant (ap (λ v. v.items) w.out-is)
          (sym c.has_neighbours.ensures ∙ w.if-has_neighbours.false)
    ]
