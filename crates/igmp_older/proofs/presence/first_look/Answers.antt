use Rattle.std.{proofs.Common.{subst, sym, arith}}
use Rattle.igmp_older.{specs.Quiet.AreQuiet}
use Rattle.igmp_older.proofs.presence.first_look.Goals as goal

pub loop-key-preserved : goal.loop-key-preserved
loop-key-preserved c = λ quiet low rest.
    c.loop-key.invariant quiet (omega (arith, low, c.min-first.ensures))
    (subst (AreQuiet quiet) (sym c.in-Some.ensures.steps) (omega (arith, low, c.min-first.ensures), rest))
