-- Two routers of the chain that greet each other in time, so that one is the DR of their link.
use Rattle.std.{specs.Prelude.{List, [], ℕ, ◌∷◌}}
use Rattle.pim_model.{specs.{Network.{At, Deliver, Move}}}
use Rattle.pim_runs.{specs.{HellosInTime.met, InTime.started, Words.{address, advance}}}
use Rattle.law_converges.{specs.LinkDr.{MeetInTime, Member, OneDrAfter}}

abbrev pub one : Member
one = record { router = 0; iface = 1; address = address 10 0 1 1; priority = 1 }

abbrev pub another : Member
another = record { router = 1; iface = 0; address = address 10 0 1 2; priority = 1 }

-- their Hello timers expire, both Hellos are delivered, and the time of both goes past the bound
abbrev pub greeting : List Move
greeting =
    At 0 (advance 100) ∷ At 1 (advance 100) ∷ Deliver 1 0 1 7 ∷ Deliver 0 1 2 7 ∷ At 0 (advance 400) ∷ At 1 (advance 400)
    ∷ []

-- a Hello comes within a tenth of a second
abbrev pub late_hello : ℕ
late_hello = 100

-- the first Hellos leave at a millisecond, and a tenth of a second twice later is the bound
abbrev pub hello_bound : ℕ
hello_bound = 201

abbrev pub BothGreet : Type 0
BothGreet = MeetInTime late_hello hello_bound started 1 (one ∷ another ∷ []) met greeting

abbrev pub OneComesToBeDr : Type 0
OneComesToBeDr = OneDrAfter started (one ∷ another ∷ []) hello_bound met greeting
