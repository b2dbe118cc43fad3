-- Each word in turn is read.
use Rattle.std.{proofs.Common.arith}
use Rattle.pim_scenario.{specs.Texts.IsAddressText, proofs.{ReadLemmas.zip_done, RouteLemmas.{no_word, word_kept}}}
use Rattle.pim_scenario.proofs.scenario.sets.read_addresses.Goals as goal

pub loop-word-preserved : goal.loop-word-preserved
loop-word-preserved c =
    word_kept c.args.words.now c.loop-word.word-index _ (omega arith) _ _ _ c.in_ok-push.ensures.ok c.loop-word.invariant
    c.in_ok-read_address.ensures

pub returns : goal.returns
returns c =
    zip_done IsAddressText (λ w. w.now) c.args.words.now _ c.loop-word.word-index (omega arith) c.loop-word.invariant

pub returns-in_err-read_address : goal.returns-in_err-read_address
returns-in_err-read_address c =
    no_word c.args.words.now c.loop-word.word-index _ (omega arith) _ c.in_err-read_address.ensures c.from_residual.ensures.1
