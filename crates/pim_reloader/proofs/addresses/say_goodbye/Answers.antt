use Rattle.std.{proofs.Common.{ap, sym, ◌∷◌, ◌++◌, [], ◌∙◌}}
use Rattle.pim_types.{specs.declared.outcome.Emission.Emission}
use Rattle.law_states.{specs.Reloading.{goodbye, leaves_address}}
use Rattle.pim_reloader.{proofs.{Told.{told_else, told_then}, addresses.say_goodbye.Goals.{then-leaves_address+in_ok-goodbye+in_ok-push, else-leaves_address}}}
use Rattle.pim_reloader.proofs.addresses.say_goodbye.Goals as goal

pub loop-number-preserved : goal.loop-number-preserved
loop-number-preserved c = elim c.if-leaves_address.branch [
  | then-leaves_address+in_ok-goodbye+in_ok-push w ↦
      told_then (goodbye c.args.world.now) (leaves_address c.args.world.now c.args.next.now.configured) c.args.sent.now.items
      c.loop-number.sent.items w.push.new.self.items _ c.loop-number.number c.loop-number.invariant
      (w.in_ok-push.ensures.items ∙ ap (λ (e : Emission). c.loop-number.sent.items ++ e ∷ []) w.in_ok-goodbye.ensures)
      (ap (λ v. v.items) w.sent-is) (sym c.leaves_address.ensures ∙ w.if-leaves_address.true)
  | else-leaves_address w ↦
      told_else (goodbye c.args.world.now) (leaves_address c.args.world.now c.args.next.now.configured) c.args.sent.now.items
      c.loop-number.sent.items _ c.loop-number.number c.loop-number.invariant (ap (λ v. v.items) w.sent-is)
      (sym c.leaves_address.ensures ∙ w.if-leaves_address.false)
]
