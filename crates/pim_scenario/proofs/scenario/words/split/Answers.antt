-- Each word in turn is taken.
use Rattle.std.{proofs.Common.{[], subst, append-nil, map}}
use Rattle.pim_scenario.{specs.Words.AreWords, proofs.WordLemmas.{words_more, next_word}}
use Rattle.pim_scenario.proofs.scenario.words.split.Goals as goal

pub loop-word-preserved : goal.loop-word-preserved
loop-word-preserved c =
    words_more c.args.text.now c.loop-word.word-iterator.rest.now c.next.new.self.rest.now c.loop-word.words.items
    c.push.new.self.items c.in-Some.word c.loop-word.invariant (next_word _ _ _ c.in-Some.ensures.steps) c.in_ok-push.ensures.items

pub returns : goal.returns
returns c =
    subst (AreWords c.args.text.now) (append-nil (map (λ w. w.now) c.loop-word.words.items))
    (c.loop-word.invariant [] c.in-None.ensures.steps.1)
