-- One setting more.
use Rattle.std.{proofs.Common.{◌∙◌, ◌++◌, ◌∷◌, [], ap, sym, add-one, map, take}}
use Rattle.lab_parts.{proofs.Settings.same_more}
use Rattle.lab_parts.proofs.station.presence_of.Goals as goal

pub loop-interface-preserved : goal.loop-interface-preserved
loop-interface-preserved c =
    c.in_ok-push.ensures.items ∙ ap (λ hs. hs ++ c.args.older_hosts ∷ []) c.loop-interface.invariant
    ∙ sym (ap (λ k. map (λ _. c.args.older_hosts) (take k c.as_slice-interface-items.result.now)) (add-one c.loop-interface._interface-index)
    ∙ same_more c.args.older_hosts c.as_slice-interface-items.result.now c.loop-interface._interface-index
    c.loop-interface-test.true)
