use Rattle.std.{proofs.Common.{ℕ, ◌≤◌}}
use Rattle.igmp_older.{specs.Quiet.AreQuiet}
use Rattle.igmp_older.proofs.presence.first_look.Given as goal

-- what isn't later than the first, nor than the rows that are left, isn't later than any
abbrev pub invariant-loop-key : goal.invariant-loop-key
invariant-loop-key l =
    (quiet : ℕ) → quiet ≤ l.first → AreQuiet quiet l._key-iterator → AreQuiet quiet l.rows.entries
