use Rattle.std.{proofs.Common.{sym, ◌∙◌}}
use Rattle.pim_model.{specs.Messages.Message}
use Rattle.law_states.{specs.Reloading.tells_anew}
use Rattle.pim_reloader.{proofs.{Told.{told_else, told_then}, hellos.tell.Goals.{then-tells_anew+in_ok-hello, else-tells_anew}}}
use Rattle.pim_reloader.proofs.hellos.tell.Goals as goal

pub loop-number-preserved : goal.loop-number-preserved
loop-number-preserved c = elim c.if-tells_anew.branch [
  | then-tells_anew+in_ok-hello w ↦
      told_then Message.Hello (tells_anew c.args.world.now c.args.next.now.configured) c.args.out.now c.loop-number.out w.hello.new.self
      c.if-tells_anew.out c.loop-number.number c.loop-number.invariant w.in_ok-hello.ensures.ok w.out-is
      (sym c.tells_anew.ensures ∙ w.if-tells_anew.true)
  | else-tells_anew w ↦
      told_else Message.Hello (tells_anew c.args.world.now c.args.next.now.configured) c.args.out.now c.loop-number.out
      c.if-tells_anew.out c.loop-number.number c.loop-number.invariant w.out-is
      (sym c.tells_anew.ensures ∙ w.if-tells_anew.false)
]
