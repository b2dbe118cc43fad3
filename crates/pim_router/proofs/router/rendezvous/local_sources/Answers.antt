use Rattle.std.proofs.Common.{◌∙◌, ◌&&◌, ap, filter}
use Rattle.pim_types.{specs.{Keys.{group_in, source_in}, declared.fact.Key.Key}}
use Rattle.pim_model.{specs.{Sets.is_kept_alive, Unicast.route}}
use Rattle.law_events.{specs.Adjacent.has_link_dr}
use Rattle.pim_router.{proofs.LocalKeys.keys_are}
use Rattle.pim_router.proofs.router.rendezvous.local_sources.Goals as goal

pub returns : goal.returns
returns c =
    c.in_ok-names.ensures
    ∙ ap (filter (λ (k : Key). has_link_dr c.args.world.now (route c.args.world.now (source_in k))
    && is_kept_alive c.args.world.now (group_in k) (source_in k)))
    (keys_are c.args.world.now.sources c.proof_keyed.ensures.sources)
