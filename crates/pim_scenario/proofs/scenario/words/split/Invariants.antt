-- The words so far, and those of what is left, are those of the text.
use Rattle.std.{proofs.Common.{List, ℕ, ◌++◌, map}, specs.Str.Iter.split_whitespace_rest}
use Rattle.pim_scenario.{specs.Words.AreWords}
use Rattle.pim_scenario.proofs.scenario.words.split.Given as goal

abbrev pub invariant-loop-word : goal.invariant-loop-word
invariant-loop-word l = (more : List (List ℕ)) → AreWords (split_whitespace_rest l.word-iterator) more
    → AreWords l.text (map (λ w. w.now) l.words.items ++ more)
