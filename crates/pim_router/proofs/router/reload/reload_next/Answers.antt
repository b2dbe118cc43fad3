use Rattle.std.{proofs.{Common.subst, lemmas.Result.on_ok_weaker}}
use Rattle.pim_types.{specs.declared.config.Config.Config}
use Rattle.law_states.{specs.Reloading.reload}
use Rattle.pim_reloader.{specs.Reloads.Reloads}
use Rattle.pim_router.{proofs.{Accepted.stands_next, Reloaded.{opens_with, reloaded_accepted, reloaded_near, reloaded_rests}}}
use Rattle.pim_router.proofs.router.reload.reload_next.Goals as goal

pub reload-requires : goal.reload-requires
reload-requires c = record { rest = c.requires.stands.rest; shown = c.requires.stands.shown }

pub returns-clause-reloads : goal.returns-clause-reloads
returns-clause-reloads c =
    subst (λ (d : Config). Reloads c.args.core.now (reload c.args.core.now.world d c.args.draw) c.reload.result c.reload.new.core)
    (opens_with c.args.config.now c.args.next c.requires.opens) c.reload.ensures

pub returns-clause-stands : goal.returns-clause-stands
returns-clause-stands c =
    stands_next c.reload.new.core c.reload.result
    (on_ok_weaker c.reload.result
    (λ same. reloaded_rests c.args.core.now.world c.reload.new.core.world c.args.next c.args.config.now c.args.draw
    c.requires.opens same c.requires.accepted c.requires.stands.rest) c.reload.ensures.state)
    c.reload.ensures.shown
    (on_ok_weaker c.reload.result
    (λ same. reloaded_accepted c.args.core.now.world c.reload.new.core.world c.args.next c.args.config.now c.args.draw
    c.requires.opens same c.requires.accepted) c.reload.ensures.state)
    (on_ok_weaker c.reload.result
    (λ same. reloaded_near c.args.core.now.world c.reload.new.core.world c.args.next c.args.config.now c.args.draw
    c.requires.opens same c.requires.stands.near) c.reload.ensures.state)
