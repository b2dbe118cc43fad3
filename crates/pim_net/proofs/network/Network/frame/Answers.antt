use Rattle.std.{proofs.Common.{◌∙◌, subst}, specs.Slice.IsItemAt}
use Rattle.pim_net.{proofs.{Lookups.{frame_found, no_frame_zero, shows}, Stations.if_some}}
use Rattle.pim_net.proofs.network.Network.frame.Goals as goal

pub returns-in-Some : goal.returns-in-Some
returns-in-Some c = if_some c.args.self.now _ (λ net is.
    frame_found c.self.inside.stations.items c.self.inside.frames.items net (shows _ _ net (c.self.view_is ∙ is))
    c.in-Some.index c.args.number c.in-Some.ensures.0 c.in-Some.ensures.1 c.get.result
    (subst (λ xs. IsItemAt xs c.in-Some.index c.get.result) c.deref.ensures.value c.get.ensures.lookup))

pub returns-in-None : goal.returns-in-None
returns-in-None c = if_some c.args.self.now _ (λ net is. no_frame_zero net c.args.number c.in-None.ensures)
