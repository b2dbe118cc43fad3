use Rattle.std.{proofs.{Common.{rules, ◌≡◌, ◌<◌, Option, Some, Ok, length, refl, subst}, lemmas.Option.slice_get_read}, specs.Prelude.{IfOk, IfSome, OnOk, set}}
use Rattle.pim_model.{specs.{Network.Network, State.State}}
use Rattle.pim_saved.{specs.Reading.reading}
use Rattle.pim_net.{specs.Showing.with_state_at, proofs.{Lookups.shown, Restored.network_put}}
use Rattle.pim_net.proofs.network.Network.restore.Goals as goal

pub returns-clause-restored : goal.returns-clause-restored
returns-clause-restored c =
    let within : c.args.router < length c.self.inside.stations.items = search rules in
    let left : Option Network =
    shown (set c.self.inside.stations.items c.args.router c.restore.new.self) c.self.inside.frames.items in
    subst (λ (o : Option Network). IfOk c.restore.result (λ made. OnOk made ((s : State) × (reading c.args.bytes.now ≡ Ok s)
    × IfSome o (λ net. left ≡ Some (with_state_at net c.args.router s))))) c.self.view_is
    (network_put c.self.inside.stations.items c.self.inside.frames.items c.args.router c.args.bytes.now c.restore.new.self
    c.index_mut.result.now
    (slice_get_read c.self.inside.stations.items _ c.args.router c.index_mut.result.now refl within c.index_mut.ensures.value)
    c.restore.result c.restore.ensures.restored)
