use Rattle.std.{proofs.{Common.{rules, ◌≤◌, ◌<◌, ◌∙◌, Some, length, ap, refl, sym}, lemmas.Option.slice_get_read}}
use Rattle.pim_types.{specs.declared.outcome.Outcome.Outcome}
use Rattle.pim_model.{specs.Network.Network}
use Rattle.pim_net.{specs.Showing.node_of, proofs.{Lookups.shows, Reloads.{fault_is, network_is, nowhere, outcome_is}, Stations.if_some}}
use Rattle.pim_net.proofs.network.Network.reload.Goals as goal

pub returns-then-router-len-clause-outcome : goal.returns-then-router-len-clause-outcome
returns-then-router-len-clause-outcome c =
    let past : length c.self.inside.stations.items ≤ c.args.router = search rules in
    if_some c.args.self.now _ (λ net is.
    c.bad_move.ensures
    ∙ ap (λ (m : Outcome × Network). m.0)
    (sym (nowhere c.args.renewal.places (node_of c.args.renewal.node) c.args.draw c.self.inside.stations.items c.self.inside.frames.items net
    (shows _ _ net (c.self.view_is ∙ is)) c.args.router past)))

pub returns-then-router-len-clause-network : goal.returns-then-router-len-clause-network
returns-then-router-len-clause-network c =
    let past : length c.self.inside.stations.items ≤ c.args.router = search rules in
    if_some c.args.self.now _ (λ net is.
    is
    ∙ ap (λ (m : Outcome × Network). Some m.1)
    (sym (nowhere c.args.renewal.places (node_of c.args.renewal.node) c.args.draw c.self.inside.stations.items c.self.inside.frames.items net
    (shows _ _ net (c.self.view_is ∙ is)) c.args.router past)))

pub returns-clause-outcome : goal.returns-clause-outcome
returns-clause-outcome c =
    let within : c.args.router < length c.self.inside.stations.items = search rules in
    let at = slice_get_read c.self.inside.stations.items _ c.args.router c.index_mut.result.now refl within c.index_mut.ensures.value in
    if_some c.args.self.now _ (λ net is.
    outcome_is c.args.renewal.places (node_of c.args.renewal.node) c.args.draw c.self.inside.stations.items c.self.inside.frames.items net
    (shows _ _ net (c.self.view_is ∙ is)) c.args.router c.index_mut.result.now at
    c.put_under.new.station c.put_under.new.frames.items c.put_under.result c.put_under.ensures.done c.put_under.ensures.refused)

pub returns-clause-network : goal.returns-clause-network
returns-clause-network c =
    let within : c.args.router < length c.self.inside.stations.items = search rules in
    let at = slice_get_read c.self.inside.stations.items _ c.args.router c.index_mut.result.now refl within c.index_mut.ensures.value in
    if_some c.args.self.now _ (λ net is.
    network_is c.args.renewal.places (node_of c.args.renewal.node) c.args.draw c.self.inside.stations.items c.self.inside.frames.items net
    (shows _ _ net (c.self.view_is ∙ is)) c.args.router c.index_mut.result.now at
    c.put_under.new.station c.put_under.new.frames.items c.put_under.result c.put_under.ensures.state c.put_under.ensures.frames
    c.put_under.ensures.refused)

pub returns-clause-fault : goal.returns-clause-fault
returns-clause-fault c =
    let within : c.args.router < length c.self.inside.stations.items = search rules in
    let at = slice_get_read c.self.inside.stations.items _ c.args.router c.index_mut.result.now refl within c.index_mut.ensures.value in
    if_some c.args.self.now _ (λ net is.
    fault_is c.args.renewal.places (node_of c.args.renewal.node) c.args.draw c.self.inside.stations.items c.self.inside.frames.items net
    (shows _ _ net (c.self.view_is ∙ is)) c.args.router c.index_mut.result.now at
    c.put_under.result c.put_under.ensures.fault)
