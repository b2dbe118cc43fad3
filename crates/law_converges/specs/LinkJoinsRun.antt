-- The first two routers of the chain, each of which joins over the next.
use Rattle.std.{specs.Prelude.{List, [], ℕ, ◌∷◌}}
use Rattle.law_streams.{specs.InTimeJoins.Pair}
use Rattle.pim_runs.{specs.{InTime.{joined, late, pair, started}, ServedChain.asked_group, WayInTime.{repeats_twice, three, upper_pair}}}
use Rattle.law_converges.{specs.LinkJoins.{AllHeldAfter, IsPairOf, JoinsOver}}

abbrev pub both_pairs : List Pair
both_pairs = pair ∷ upper_pair ∷ []

-- the next Joins are due at 61 s, and five seconds twice later is the bound
abbrev pub join_bound : ℕ
join_bound = 71000

abbrev pub BothJoinInTime : Type 0
BothJoinInTime = (c : Pair) → IsPairOf both_pairs c → JoinsOver joined asked_group late join_bound started three repeats_twice c

abbrev pub BothComeToBeHeld : Type 0
BothComeToBeHeld = AllHeldAfter joined asked_group started both_pairs join_bound three repeats_twice
