use Rattle.std.{proofs.Common.{◌∙◌, subst}, specs.Slice.IsItemAt}
use Rattle.pim_net.{proofs.{Lookups.{shows, station_found, station_missing}, Stations.if_some}}
use Rattle.pim_net.proofs.network.Network.station.Goals as goal

pub returns-clause-some : goal.returns-clause-some
returns-clause-some c = if_some c.args.self.now _ (λ net is.
    station_found c.self.inside.stations.items c.self.inside.frames.items net (shows _ _ net (c.self.view_is ∙ is)) c.args.n
    c.get.result (subst (λ xs. IsItemAt xs c.args.n c.get.result) c.deref.ensures.value c.get.ensures.lookup))

pub returns-clause-none : goal.returns-clause-none
returns-clause-none c = if_some c.args.self.now _ (λ net is.
    station_missing c.self.inside.stations.items c.self.inside.frames.items net (shows _ _ net (c.self.view_is ∙ is)) c.args.n
    c.get.result (subst (λ xs. IsItemAt xs c.args.n c.get.result) c.deref.ensures.value c.get.ensures.lookup))
