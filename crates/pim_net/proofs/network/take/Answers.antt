use Rattle.std.{proofs.Common.{◌≡◌, ◌++◌, List, map, subst}, specs.Prelude.IfSome}
use Rattle.pim_types.{specs.declared.outcome.Emission.Emission}
use Rattle.pim_model.{specs.Network.sent_by}
use Rattle.pim_net.{proofs.Steps.frames_are}
use Rattle.pim_net.proofs.network.take.Goals as goal

pub returns-clause-frames : goal.returns-clause-frames
returns-clause-frames c =
    frames_are c.args.station.now c.step.new.self c.args.event.now c.in_ok-outcome.outcome c.keep.new.frames.items
    c.args.frames.now.items c.in_ok-outcome.ensures.outcome c.in_ok-outcome.ensures.state
    (subst (λ (es : List Emission). IfSome c.step.new.self
    (λ st. c.keep.new.frames.items ≡ c.args.frames.now.items ++ map (sent_by st.links) es))
    c.as_slice.ensures c.in_ok-keep.ensures.kept)
