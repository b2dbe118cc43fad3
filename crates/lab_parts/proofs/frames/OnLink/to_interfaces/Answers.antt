-- Each interface in turn receives the frame or not.
use Rattle.std.{proofs.Common.{rules, arith, ◌≡◌, ◌∙◌, ◌++◌, sym}}
use Rattle.lab_parts.{specs.Settling.received, proofs.{Settling.{interfaces-done, interfaces-step}, frames.OnLink.to_interfaces.Goals.{then-is_received+in_ok-delivery+in_ok-push_back, else-is_received}}}
use Rattle.lab_parts.proofs.frames.OnLink.to_interfaces.Goals as goal

pub loop-place-preserved : goal.loop-place-preserved
loop-place-preserved c =
    let put : c.if-is_received.found.items
    ≡ c.loop-place.found.items ++ received c.args.self c.args.router c.loop-place.place c.index-links-place.result =
    elim c.if-is_received.branch [
      | then-is_received+in_ok-delivery+in_ok-push_back w ↦ search rules
      | else-is_received w ↦ search rules
    ] in
    sym (interfaces-step _ _ _ _ _ _ _ (omega arith) c.index-links-place.is put) ∙ c.loop-place.invariant

pub returns : goal.returns
returns c = sym (interfaces-done _ _ _ _ _ (omega arith)) ∙ c.loop-place.invariant
