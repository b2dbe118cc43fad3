-- How long a Join that was taken is held.
use Rattle.std.{specs.Prelude.{Bool, List, Option, Some, [], false, nat_le, ℕ, ◌&&◌, ◌==◌, ◌∷◌, ◌≡◌}}
use Rattle.pim_types.{specs.{Keys.{iface_in, source_key, star_key}, declared.{event.Event.Event, fact.Key.Key}}}
use Rattle.pim_model.{specs.{declared.accepted.Accepted.Accepted, Cause.done_as, Downstream.{is_named, pruned_keys}, State.State, Step.{state_after, step}}}
use Rattle.law_settled.{specs.Ready.IsSettled}
use Rattle.law_streams.{specs.{Copies.happens, Joins.{HoldsSource, HoldsStar}}}

-- The events that may remove a tree on an interface before a timestamp: a Prune of it to the router there, the
-- interface going down, and time that passes to the timestamp.
abbrev pub takes_back : Key → ℕ → Option Accepted → Bool
takes_back k end (Some (Accepted.Advance moment)) = nat_le end moment
takes_back k end (Some (Accepted.Down j)) = j.number == iface_in k
takes_back k end (Some (Accepted.JoinPruneToMe j m)) = (j.number == iface_in k) && is_named (pruned_keys j.number m) k
takes_back k end o = false

-- An event that isn't listed in `takes_back` leaves the tree held.
abbrev pub EventKeepsStar : Type 0
EventKeepsStar = (s : State) (e : Event) (i g end : ℕ) → IsSettled s → HoldsStar s i g (Some end)
    → takes_back (star_key i g) end (done_as (happens s e)) ≡ false → HoldsStar (step s e).state i g (Some end)

-- No event removes a Join(S,G) that was taken but a Prune, the interface going down, and its expiry.
abbrev pub EventKeepsSource : Type 0
EventKeepsSource = (s : State) (e : Event) (i g src end : ℕ) → IsSettled s → HoldsSource s i g src (Some end)
    → takes_back (source_key i g src) end (done_as (happens s e)) ≡ false → HoldsSource (step s e).state i g src (Some end)

-- A list of events of which none is listed in `takes_back`.
abbrev pub NoneTakesBack : (k : Key) (end : ℕ) → State → List Event → Type 0
NoneTakesBack k end s [] = Unit {0}
NoneTakesBack k end s (e ∷ es) =
    (takes_back k end (done_as (happens s e)) ≡ false) × NoneTakesBack k end (step s e).state es

-- No list of events removes a Join(*,G) that was taken, if it has no Prune, the interface doesn't go down, and the Join
-- doesn't expire.
abbrev pub RunKeepsStar : Type 0
RunKeepsStar = (s : State) (events : List Event) (i g end : ℕ) → IsSettled s → HoldsStar s i g (Some end)
    → NoneTakesBack (star_key i g) end s events → HoldsStar (state_after s events) i g (Some end)

-- No list of events removes a Join(S,G) that was taken, if it has no Prune, the interface doesn't go down, and the Join
-- doesn't expire.
abbrev pub RunKeepsSource : Type 0
RunKeepsSource = (s : State) (events : List Event) (i g src end : ℕ) → IsSettled s → HoldsSource s i g src (Some end)
    → NoneTakesBack (source_key i g src) end s events → HoldsSource (state_after s events) i g src (Some end)
