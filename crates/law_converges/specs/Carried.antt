-- What is sent on a link comes to all of its routers, in the order in which it was sent, and soon.
use Rattle.std.{specs.{List.AllByRecursion, Prelude.{List, Some, [], false, if◌then◌else◌, length, ℕ, ◌&&◌, ◌+◌, ◌<◌, ◌==◌, ◌∷◌, ◌≡◌, ◌≤◌}}}
use Rattle.pim_types.{specs.declared.event.Event.Event}
use Rattle.pim_model.{specs.{Network.{At, Deliver, DeliverUnicast, Move, Network, Sent, Station, event_of, frame_at, moved, station_at}, Timers.{Ending, timers}}}
use Rattle.law_streams.{specs.InTimeJoins.{IsBy, time_at}}
use Rattle.law_converges.{specs.LinkDr.{IsOne, Member}}

-- when each frame was sent, in ms, and by which router, by its number
pub record Traffic : Type 0 where
  pub sent : ℕ → ℕ
  pub by : ℕ → ℕ

-- a frame on the link that another router sent
pub record IsFor (t : Traffic) (link r : ℕ) (n : Network) (number : ℕ) : Type 0 where
  pub frame : Sent
  pub is : frame_at n number ≡ Some frame
  pub on : frame.link ≡ Some link
  pub other : (t.by number == r) ≡ false

-- ---- what came

-- the number of the last frame that came, by router and interface
abbrev pub Arrivals : Type 0
Arrivals = ℕ → ℕ → ℕ

-- after a move
abbrev pub arrived : Arrivals → Move → Arrivals
arrived came (At r e) = came
arrived came (Deliver r i k draw) = λ q j. if (q == r) && (j == i) then k else came q j
arrived came (DeliverUnicast r k draw) = came

-- a frame that comes to a router is on the link, is the next one of those for it, and comes no sooner than it was sent
pub record ComesInTurn (started : ℕ → ℕ) (t : Traffic) (link : ℕ) (y : Member) (came : Arrivals) (number : ℕ) (n : Network) : Type 0 where
  pub its : IsFor t link y.router n number
  pub later : came y.router y.iface < number
  pub none_between : (k : ℕ) → came y.router y.iface < k → k < number → IsFor t link y.router n k → ⊥
  pub after : (st : Station) → station_at n y.router ≡ Some st → t.sent number ≤ time_at started y.router st

-- until a frame has come to all routers of the link, the time at none of these is more than d past when it was sent
abbrev pub AreSoon : (d : ℕ) → (ℕ → ℕ) → Traffic → (link : ℕ) → List Member → Arrivals → Network → Type 0
AreSoon d started t link members came n = (y z : Member) (k : ℕ) → IsOne members y → IsOne members z
    → came y.router y.iface < k → IsFor t link y.router n k → IsBy started z.router (t.sent k + d) n

-- so it is before the first of the moves and after each, and each frame comes in its turn
abbrev pub Carries : (d : ℕ) → (ℕ → ℕ) → Traffic → (link : ℕ) → List Member → Arrivals → Network → List Move → Type 0
Carries d started t link members came n [] = AreSoon d started t link members came n
Carries d started t link members came n (m ∷ ms) =
    AreSoon d started t link members came n
    × ((y : Member) (k draw : ℕ) → IsOne members y → m ≡ Deliver y.router y.iface k draw → ComesInTurn started t link y came k n)
    × Carries d started t link members (arrived came m) (moved n m).1 ms

-- something holds of each move
abbrev pub EachMove : (Network → Move → Type 0) → Network → List Move → Type 0
EachMove P n [] = Unit {0}
EachMove P n (m ∷ ms) = P n m × EachMove P (moved n m).1 ms

-- ---- clocks

-- what a router sends is sent by it, at the time at it
abbrev pub IsSentBy : (ℕ → ℕ) → Traffic → Network → Move → Type 0
IsSentBy started t n m = (r : ℕ) (e : Event) (st : Station) (k : ℕ) → event_of n m ≡ Some (r, e)
    → station_at (moved n m).1 r ≡ Some st → length n.frames < k → k ≤ length ((moved n m).1).frames
    → (t.sent k ≡ time_at started r st) × (t.by k ≡ r)

-- no timer of any router is more than `late` ms late, by the time at any
abbrev pub IsPrompt : (late : ℕ) → (ℕ → ℕ) → Network → Move → Type 0
IsPrompt late started n m = (r q : ℕ) (st : Station) → station_at n r ≡ Some st
    → AllByRecursion (λ (e : Ending). IsBy started q (e.end + started r + late) (moved n m).1) (timers st.state)

-- ---- a link

-- none of the first frames comes any more, and to begin with none is beyond those that were sent
pub record IsCarried (d late : ℕ) (started : ℕ → ℕ) (t : Traffic) (came : Arrivals) (link : ℕ) (members : List Member) (first : ℕ)
    (n : Network) (ms : List Move) : Type 0 where
  pub timely : late ≤ d
  pub sent : EachMove (IsSentBy started t) n ms
  pub prompt : EachMove (IsPrompt late started) n ms
  pub carries : Carries d started t link members came n ms
  pub since : (y : Member) → IsOne members y → first ≤ came y.router y.iface
  pub behind : (y : Member) → IsOne members y → came y.router y.iface ≤ length n.frames
