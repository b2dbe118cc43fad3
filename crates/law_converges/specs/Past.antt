-- What holds from a bound on: after each move by which the time at each router of the network is past it.
use Rattle.std.{specs.Prelude.{List, Some, [], ℕ, ◌<◌, ◌∷◌, ◌≡◌}}
use Rattle.pim_model.{specs.Network.{Move, Network, Station, moved, station_at}}
use Rattle.law_streams.{specs.InTimeJoins.time_at}

-- the time at each router of the network is past a bound
abbrev pub ArePast : (ℕ → ℕ) → (bound : ℕ) → Network → Type 0
ArePast started bound n = (r : ℕ) (st : Station) → station_at n r ≡ Some st → bound < time_at started r st

-- something holds after each move by which the time at each router is past the bound
abbrev pub HoldsPast : (ℕ → ℕ) → (bound : ℕ) → (Network → Type 0) → Network → List Move → Type 0
HoldsPast started bound P n [] = Unit {0}
HoldsPast started bound P n (m ∷ ms) =
    (ArePast started bound (moved n m).1 → P (moved n m).1) × HoldsPast started bound P (moved n m).1 ms

-- something holds of the moves that are left after each move by which the time at each router is past the bound
abbrev pub HoldsPastOn : (ℕ → ℕ) → (bound : ℕ) → (Network → List Move → Type 0) → Network → List Move → Type 0
HoldsPastOn started bound P n [] = Unit {0}
HoldsPastOn started bound P n (m ∷ ms) =
    (ArePast started bound (moved n m).1 → P (moved n m).1 ms) × HoldsPastOn started bound P (moved n m).1 ms
