use Rattle.std.{proofs.Common.{◌≡◌, true, false, ap}}
use Rattle.pim_session.{specs.Session.ShownSession, proofs.Guarding.{stays_still, sure_to_stay}}
use Rattle.pim_session.proofs.session.Session.stay.Goals as goal

pub returns-in-Ok-clause-still : goal.returns-in-Ok-clause-still
returns-in-Ok-clause-still c =
    stays_still c.self.inside.is_lost c.args.self.now.router c.self.inside.router.value c.deref_mut.result.now c.step_lent.new.self c.unicast.result c.args.draw
    _ _ _ (ap (λ (s : ShownSession). s.router) c.self.view_is) c.deref_mut.ensures.value c.unicast.ensures c.requires
    c.in-Ok.ensures.stepped

pub returns-clause-stop : goal.returns-clause-stop
returns-clause-stop c =
    let no : false ≡ true = sure_to_stay c.self.inside.is_lost c.args.self.now.router c.self.inside.router.value c.deref_mut.result.now c.unicast.result c.args.draw (false ≡ true)
    (ap (λ (s : ShownSession). s.router) c.self.view_is) c.deref_mut.ensures.value c.unicast.ensures c.requires c.in-Err.ensures.sure in cc

pub returns-clause-still : goal.returns-clause-still
returns-clause-still c =
    let no : false ≡ true = sure_to_stay c.self.inside.is_lost c.args.self.now.router c.self.inside.router.value c.deref_mut.result.now c.unicast.result c.args.draw (false ≡ true)
    (ap (λ (s : ShownSession). s.router) c.self.view_is) c.deref_mut.ensures.value c.unicast.ensures c.requires c.in-Err.ensures.sure in cc

pub returns-clause-rest : goal.returns-clause-rest
returns-clause-rest c =
    let no : false ≡ true = sure_to_stay c.self.inside.is_lost c.args.self.now.router c.self.inside.router.value c.deref_mut.result.now c.unicast.result c.args.draw (false ≡ true)
    (ap (λ (s : ShownSession). s.router) c.self.view_is) c.deref_mut.ensures.value c.unicast.ensures c.requires c.in-Err.ensures.sure in cc
