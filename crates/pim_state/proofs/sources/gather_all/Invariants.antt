use Rattle.std.{proofs.Common.◌≡◌}
use Rattle.pim_state.{specs.Groups.{gathered, numbers_of}}
use Rattle.pim_state.proofs.sources.gather_all.Given as goal

abbrev pub invariant-loop-source : goal.invariant-loop-source
invariant-loop-source l =
    gathered l.source-iterator (numbers_of l.found.entries) ≡ gathered l.fn.sources (numbers_of l.fn.found.entries)
