use Rattle.std.{proofs.Common.{ap, sym, ◌∷◌, ◌++◌, [], ◌∙◌}}
use Rattle.pim_types.{specs.declared.outcome.Emission.Emission}
use Rattle.pim_bsr.{specs.Hearing.{is_sent_on, passed_on}, proofs.{Told.{told_else, told_then}, listener.Listener.send_on.Goals.{then-is_sent_on+in_ok-passed_on+in_ok-push, else-is_sent_on}}}
use Rattle.pim_bsr.proofs.listener.Listener.send_on.Goals as goal

pub loop-number-preserved : goal.loop-number-preserved
loop-number-preserved g c =
    let around = g.S.Surroundings.around c.args.around.now in
    let test = is_sent_on around c.args.self.now c.args.iface.number c.args.bytes.now in
    elim c.if-is_sent_on.branch [
      | then-is_sent_on+in_ok-passed_on+in_ok-push w ↦
          told_then (passed_on around c.args.bytes.now) test c.args.out.now.items
          c.loop-number.out.items w.push.new.self.items _ c.loop-number.number c.loop-number.invariant
          (w.in_ok-push.ensures.items ∙ ap (λ (e : Emission). c.loop-number.out.items ++ e ∷ []) w.in_ok-passed_on.ensures)
          (ap (λ v. v.items) w.out-is) (sym c.is_sent_on.ensures ∙ w.if-is_sent_on.true)
      | else-is_sent_on w ↦
          told_else (passed_on around c.args.bytes.now) test c.args.out.now.items
          c.loop-number.out.items _ c.loop-number.number c.loop-number.invariant (ap (λ v. v.items) w.out-is)
          (sym c.is_sent_on.ensures ∙ w.if-is_sent_on.false)
    ]
