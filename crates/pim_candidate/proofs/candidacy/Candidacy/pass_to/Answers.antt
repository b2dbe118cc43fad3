use Rattle.std.{proofs.lemmas.Result.on_ok_weaker}
use Rattle.pim_candidate.{proofs.Standing.sends_nothing}
use Rattle.pim_candidate.proofs.candidacy.Candidacy.pass_to.Goals as goal

-- src/candidacy/passing.rt:49:13
pub returns-then-is_nothing-clause-sent : goal.returns-then-is_nothing-clause-sent
returns-then-is_nothing-clause-sent g c =
    let no_bsr = c.is_nothing.ensures.bsr c.if-is_nothing.true in
    let no_rp = c.is_nothing.ensures.rp c.if-is_nothing.true in
    let none = sends_nothing (g.S.Surroundings.around c.args.around.now) c.args.self.now c.args.listener.now no_bsr no_rp in
    on_ok_weaker c.pass_to.result (λ _. none c.args.out.now.items c.args.moment c.args.draw) c.pass_to.ensures.passed
