-- The loser of the assert of a group on a link hears the winner's next Assert, 177 s later; computed by the kernel.
use Rattle.std.{specs.Prelude.{List, [], if◌then◌else◌, ℕ, ◌++◌, ◌==◌, ◌∷◌}}
use Rattle.pim_model.{specs.Network.{At, Deliver, Move, Network, Station, moved}}
use Rattle.pim_runs.{specs.{Base.{base, group}, ServedChain.station, Words.advance}}
use Rattle.law_streams.{specs.InTimeJoins.Always}
use Rattle.law_converges.{specs.{LinkAssertsRun.{beside, better, farther_station, nearer_events}, LinkLosers.{AssertsBy, AssertsComeInTime, HasLostAfter, HasLostTo, LosesBeyond}}}

-- the nearer one's Assert Timer is about to expire, and the farther one, which started 177 s later, takes itself for the winner
abbrev pub nearer_station : Station
nearer_station = station (10 ∷ 1 ∷ 12 ∷ []) base (nearer_events ++ advance 176999 ∷ [])

abbrev pub two_of_late : Network
two_of_late = record { stations = nearer_station ∷ farther_station ∷ []; frames = [] }

abbrev pub started_later : ℕ → ℕ
started_later r = if r == 0 then 0 else 177000

-- The timer expires, the nearer one's Assert comes to the farther one, and the farther one's time goes past the bound.
abbrev pub says_again : Move
says_again = At 0 (advance 177000)

abbrev pub hears_it : Move
hears_it = Deliver 1 0 1 7

abbrev pub goes_on : Move
goes_on = At 1 (advance 2500)

abbrev pub asserting : List Move
asserting = says_again ∷ hears_it ∷ goes_on ∷ []

-- an Assert comes within a second
abbrev pub late_assert : ℕ
late_assert = 1000

abbrev pub next_assert_bound : ℕ
next_assert_bound = 179000

abbrev pub NearerAssertsInTime : Type 0
NearerAssertsInTime =
    AssertsComeInTime group 0 better late_assert started_later beside two_of_late asserting
    × AssertsBy group 0 better late_assert next_assert_bound started_later beside two_of_late

-- So the farther one has lost from then on.
abbrev pub FartherComesToLose : Type 0
FartherComesToLose = HasLostAfter group 0 better started_later beside next_assert_bound two_of_late asserting

-- The farther one has lost, and the nearer one's next Assert is 177 s away.
abbrev pub has_heard : Network
has_heard = (moved (moved two_of_late says_again).1 hears_it).1

abbrev pub later_bound : ℕ
later_bound = 356000

abbrev pub FartherStaysLoser : Type 0
FartherStaysLoser =
    AssertsComeInTime group 0 better late_assert started_later beside has_heard (goes_on ∷ [])
    × AssertsBy group 0 better late_assert later_bound started_later beside has_heard
    × LosesBeyond group 0 better later_bound started_later beside has_heard
    × Always (HasLostTo group 0 better beside) has_heard (goes_on ∷ [])
