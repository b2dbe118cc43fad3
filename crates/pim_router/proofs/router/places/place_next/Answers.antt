use Rattle.std.{proofs.{Common.{◌≡◌, true, length, Ok, subst, sym}, lemmas.Result.on_ok_weaker}}
use Rattle.pim_types.{specs.declared.config.Config.Config}
use Rattle.pim_model.{specs.{Limits.config_test, State.iface_count}}
use Rattle.law_states.{specs.{Placing.{are_places, reload_by}, Reload.config_of}}
use Rattle.pim_reloader.{specs.Reloads.Reloads}
use Rattle.pim_router.{proofs.{Accepted.stands_next, Reloaded.{opens_with, placed_accepted, placed_near, placed_rests}}}
use Rattle.pim_router.proofs.router.places.place_next.Goals as goal

pub reload_places-requires-clause-next_accepted : goal.reload_places-requires-clause-next_accepted
reload_places-requires-clause-next_accepted c =
    subst (λ (d : Config). config_test d ≡ Ok tt) (sym (opens_with c.args.config.now c.args.next.now c.requires.opens))
    c.requires.accepted

pub reload_places-requires-clause-places : goal.reload_places-requires-clause-places
unfolding config_of
reload_places-requires-clause-places c =
    subst (λ (d : Config). are_places (iface_count c.args.core.now.world) (length d.interfaces) c.args.places.now ≡ true)
    (sym (opens_with c.args.config.now c.args.next.now c.requires.opens)) c.requires.fit

pub returns-clause-reloads : goal.returns-clause-reloads
returns-clause-reloads c =
    subst (λ (d : Config). Reloads c.args.core.now (reload_by c.args.core.now.world c.args.places.now d c.args.draw) c.reload_places.result
    c.reload_places.new.core) (opens_with c.args.config.now c.args.next.now c.requires.opens) c.reload_places.ensures

pub returns-clause-stands : goal.returns-clause-stands
returns-clause-stands c =
    let s = c.args.core.now.world in
    let t = c.reload_places.new.core.world in
    let m = c.args.places.now in
    stands_next c.reload_places.new.core c.reload_places.result
    (on_ok_weaker c.reload_places.result
    (λ same. placed_rests s t c.args.next.now m c.args.config.now c.args.draw c.requires.opens same c.requires.stands.accepted
    c.requires.accepted c.requires.stands.rest) c.reload_places.ensures.state)
    c.reload_places.ensures.shown
    (on_ok_weaker c.reload_places.result
    (λ same. placed_accepted s t c.args.next.now m c.args.config.now c.args.draw c.requires.opens same c.requires.accepted)
    c.reload_places.ensures.state)
    (on_ok_weaker c.reload_places.result
    (λ same. placed_near s t c.args.next.now m c.args.config.now c.args.draw c.requires.opens same c.requires.fit
    c.requires.stands.near) c.reload_places.ensures.state)
