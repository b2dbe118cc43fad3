use Rattle.std.proofs.Common.{ap, sym, ◌∙◌}
use Rattle.pim_worlds.{proofs.{Gathered.{none_there, one_there}, ordered.interfaces_at.Goals.{in-Some+in_ok-push, in_default}}}
use Rattle.pim_worlds.proofs.ordered.interfaces_at.Goals as goal

pub loop-place-preserved : goal.loop-place-preserved
loop-place-preserved c =
    let cs = c.args.configured.now in
    let order = c.args.order.now in
    let i = c.loop-place.place-index in
    elim c.match-interface_at.branch [
      | in-Some+in_ok-push w ↦
          one_there cs order i 0 c.loop-place.made.items c.match-interface_at.made.items _ c.loop-place-test.true
          c.loop-place.invariant w.in-Some.interface (sym c.interface_at.ensures ∙ w.in-Some.is)
          (ap (λ v. v.items) w.made-is ∙ w.in_ok-push.ensures.items)
      | in_default w ↦
          none_there cs order i 0 c.loop-place.made.items c.match-interface_at.made.items _ c.loop-place-test.true
          c.loop-place.invariant c.interface_at.result c.interface_at.ensures w.in_default.not-Some (ap (λ v. v.items) w.made-is)
    ]
