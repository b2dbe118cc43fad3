use Rattle.std.{proofs.{Common.{◌∙◌, ap, drop, sym}, lemmas.List.drop-drop}}
use Rattle.pim_session.{specs.Session.ShownSession}
use Rattle.pim_session.proofs.session.Session.remove_first.Goals as goal

pub returns-then-has_untaken-clause-sent : goal.returns-then-has_untaken-clause-sent
returns-then-has_untaken-clause-sent c =
    sym (drop-drop 1 c.self.inside.taken c.self.inside.sent.items) ∙ ap (λ (s : ShownSession). drop 1 s.sent) c.self.view_is
