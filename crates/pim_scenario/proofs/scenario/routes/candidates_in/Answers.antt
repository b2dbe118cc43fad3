-- Each text in turn is read.
use Rattle.std.{proofs.Common.{arith, sym, map}}
use Rattle.pim_scenario.{specs.Scenario.{IsText, AreCandidateWords}, proofs.ReadLemmas.{more_read, all_read, none_read, part_fails, no_text, words_said}}
use Rattle.pim_scenario.proofs.scenario.routes.candidates_in.Goals as goal

pub loop-text-preserved : goal.loop-text-preserved
loop-text-preserved c =
    more_read (IsText AreCandidateWords) c.args.texts.now _ _ _ c.text-item.result _ (omega arith) c.text-item.is c.in_ok-push.ensures.ok
    c.loop-text.invariant
    (record {
      text = c.in_ok-text_of.field-0.now;
      words = map (λ w. w.now) c.in_ok-words.words.items;
      is_text = sym c.in_ok-text_of.ensures;
      are_words = c.in_ok-words.ensures;
      say = rw (← c.as_slice.ensures.value) c.in_ok-read_candidate.ensures;
    })

pub returns : goal.returns
returns c = all_read (IsText AreCandidateWords) c.args.texts.now c.loop-text.text-index _ (omega arith) c.loop-text.invariant

pub returns-in_err-text_of : goal.returns-in_err-text_of
returns-in_err-text_of c =
    none_read (IsText AreCandidateWords) c.args.texts.now c.loop-text.text-index c.text-item.result _ (omega arith) c.text-item.is
    (no_text AreCandidateWords _ c.in_err-text_of.ensures) c.from_residual.ensures.1

pub returns-in_err-read_candidate : goal.returns-in_err-read_candidate
returns-in_err-read_candidate c =
    part_fails (IsText AreCandidateWords) c.args.texts.now (AreCandidateWords (map (λ w. w.now) c.as_slice.result.now)) c.loop-text.text-index
    c.text-item.result _ _ (omega arith) c.text-item.is
    (words_said AreCandidateWords _ _ _ c.in_ok-text_of.ensures (rw c.as_slice.ensures.value c.in_ok-words.ensures))
    c.in_err-read_candidate.ensures c.from_residual-in_err-read_candidate.ensures.1
