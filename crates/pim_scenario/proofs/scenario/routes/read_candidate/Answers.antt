-- A word that writes no number.
use Rattle.pim_scenario.{proofs.{ReadLemmas.wrong, RouteLemmas.four_words}}
use Rattle.pim_scenario.proofs.scenario.routes.read_candidate.Goals as goal

pub returns-in_err-read_number : goal.returns-in_err-read_number
returns-in_err-read_number c =
    wrong _ _ c.from_residual-in_err-read_number.ensures.1
    (λ r say. c.in_err-read_number.ensures _ (four_words _ c.args.words.now r say).priority_text)

pub returns-in_err-read_number-2 : goal.returns-in_err-read_number-2
returns-in_err-read_number-2 c =
    wrong _ _ c.from_residual-in_err-read_number-2.ensures.1
    (λ r say. c.in_err-read_number-2.ensures _ (four_words _ c.args.words.now r say).mask_text)
