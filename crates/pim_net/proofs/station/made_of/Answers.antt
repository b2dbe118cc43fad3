use Rattle.std.{proofs.Common.{◌≡◌, Ok}}
use Rattle.pim_model.{specs.State.State}
use Rattle.pim_worlds.{specs.Resuming.restore_test}
use Rattle.pim_router.{specs.Standing.{Shown, begun}}
use Rattle.pim_saved.{specs.Reading.reading}
use Rattle.pim_net.{proofs.{Restored.read_as, Stations.of_ok}}
use Rattle.pim_net.proofs.station.made_of.Goals as goal

pub returns-then-interface_count-interfaces-clause-made : goal.returns-then-interface_count-interfaces-clause-made
returns-then-interface_count-interfaces-clause-made c =
    let tested : restore_test c.args.bytes.now ≡ Ok tt =
    of_ok c.in_ok-router.field-0 (λ (router : Shown). restore_test c.args.bytes.now ≡ Ok tt) c.in-Ok.router c.in-Ok.is
    c.in_ok-router.ensures.tested in
    let said = read_as c.args.bytes.now tested in (
      said.0,
      said.1,
      of_ok c.in_ok-router.field-0 (λ (router : Shown). (s : State) → reading c.args.bytes.now ≡ Ok s → router ≡ begun s)
          c.in-Ok.router c.in-Ok.is c.in_ok-router.ensures.restored said.0 said.1,
    )
