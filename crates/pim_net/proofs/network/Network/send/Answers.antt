use Rattle.std.{proofs.Common.{◌∙◌, Bor, Option, subst}, specs.Slice.IsItemAt}
use Rattle.pim_model.{specs.Network.Station}
use Rattle.pim_net.{proofs.{Lookups.shows, Sending.{sent_nowhere, sent_there}, Stations.if_some}}
use Rattle.pim_net.proofs.network.Network.send.Goals as goal

pub returns-in-Some-clause-sent : goal.returns-in-Some-clause-sent
returns-in-Some-clause-sent c = if_some c.args.self.now _ (λ net is.
    sent_there c.self.inside.stations.items c.self.inside.frames.items net (shows _ _ net (c.self.view_is ∙ is)) c.args.router
    c.args.emissions.now c.in-Some.station c.keep.result c.keep.new.frames.items
    (subst (λ (o : Option (Bor (Option Station))). IsItemAt c.self.inside.stations.items c.args.router o) c.in-Some.is
    (subst (λ xs. IsItemAt xs c.args.router c.get.result) c.deref.ensures.value c.get.ensures.lookup))
    c.keep.ensures.kept)

pub returns-in-None-clause-sent : goal.returns-in-None-clause-sent
returns-in-None-clause-sent c = if_some c.args.self.now _ (λ net is.
    sent_nowhere c.self.inside.stations.items c.self.inside.frames.items net (shows _ _ net (c.self.view_is ∙ is)) c.args.router
    c.args.emissions.now _ is
    (subst (λ (o : Option (Bor (Option Station))). IsItemAt c.self.inside.stations.items c.args.router o) c.in-None.is
    (subst (λ xs. IsItemAt xs c.args.router c.get.result) c.deref.ensures.value c.get.ensures.lookup)))
