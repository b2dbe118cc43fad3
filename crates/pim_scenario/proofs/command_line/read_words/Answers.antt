-- The parse of the words, in the words of their meaning.
use Rattle.std.{proofs.{Common.{◌∙◌, sym, subst}, lemmas.Result.IfOk-weaker}}
use Rattle.clap.{specs.Words.Kinds}
use Rattle.pim_scenario.{specs.CommandLine.CanAnswer, proofs.CommandLineLemmas.{taken, taken_kinds, untaken, untaken_answer}}
use Rattle.pim_scenario.proofs.command_line.read_words.Goals as goal

pub returns-in-Ok-clause-accepted : goal.returns-in-Ok-clause-accepted
returns-in-Ok-clause-accepted c =
    IfOk-weaker c.accepted.result _ _
    (λ a meant. meant ∙ taken _ _ c.in-Ok.matches c.in_ok-command.ensures c.in-Ok.ensures.matches c.in-Ok.ensures.kinds)
    c.accepted.ensures.meant

pub returns-in-Ok-clause-kinds : goal.returns-in-Ok-clause-kinds
returns-in-Ok-clause-kinds c =
    IfOk-weaker c.accepted.result _ _
    (λ a none. subst (λ (k : Kinds). CanAnswer a k) (sym (taken_kinds _ _ c.in_ok-command.ensures c.in-Ok.ensures.kinds)) none)
    c.accepted.ensures.no_help

pub returns-in-Err-clause-accepted : goal.returns-in-Err-clause-accepted
returns-in-Err-clause-accepted c =
    untaken c.unaccepted.result _ _ c.in-Err.error c.in_ok-command.ensures c.in-Err.ensures.kinds
    c.unaccepted.ensures.ok c.unaccepted.ensures.kinds

pub returns-in-Err-clause-kinds : goal.returns-in-Err-clause-kinds
returns-in-Err-clause-kinds c =
    untaken_answer c.unaccepted.result _ _ c.in-Err.error c.in_ok-command.ensures c.in-Err.ensures.kinds
    c.unaccepted.ensures.kinds
