use Rattle.std.{proofs.Common.{◌≡◌, ◌∙◌, [], true, false, subst}, specs.Option.option_map_or}
use Rattle.pim_anycast.{specs.Sets.are_rp_sets}
use Rattle.pim_session.{proofs.Sharing.fits_told, specs.Session.ShownSession}
use Rattle.pim_session.proofs.session.Session.set_rp_sets.Goals as goal

pub returns-in-Ok-clause-accepted : goal.returns-in-Ok-clause-accepted
returns-in-Ok-clause-accepted c =
    fits_told c.args.self.now.router.standing c.args.sets.items true
    (subst (λ (s : ShownSession). are_rp_sets
    (option_map_or (λ r. r.state.configured) s.router.standing (record { interfaces = []; addresses = [] })) c.args.sets.items ≡ true)
    (rw c.if-self.false at c.self.view_is) (rw (c.of.ensures ∙ c.deref.ensures) at c.in-Ok.ensures.fits))

pub returns-in-Err-clause-refused : goal.returns-in-Err-clause-refused
returns-in-Err-clause-refused c =
    fits_told c.args.self.now.router.standing c.args.sets.items false
    (subst (λ (s : ShownSession). are_rp_sets
    (option_map_or (λ r. r.state.configured) s.router.standing (record { interfaces = []; addresses = [] })) c.args.sets.items ≡ false)
    (rw c.if-self.false at c.self.view_is) (rw (c.of.ensures ∙ c.deref.ensures) at c.in-Err.ensures.refused))
