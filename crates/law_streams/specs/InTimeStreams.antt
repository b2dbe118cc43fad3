-- A stream to a router goes on while the Joins of that router come in time.
use Rattle.std.{specs.Prelude.{Bool, List, Option, Some, [], false, ℕ, ◌&&◌, ◌<◌, ◌==◌, ◌||◌, ◌∷◌, ◌≡◌}}
use Rattle.pim_types.{specs.{Keys.rpt_key, declared.event.Event.Event}}
use Rattle.pim_model.{specs.{declared.accepted.Accepted.Accepted, Cause.done_as, Network.{Move, Network, Station, event_of, moved, station_at}, Sets.prunes, State.State, Step.step}}
use Rattle.law_streams.{specs.{Copies.happens, Passing.{Passes, Receiver, Tree, lacks_room, leaves_tree, takes_effect, takes_link}, InTimeJoins.{Always, ComeInTime, IsJoin, Join, Pair, Source, Star, Wants, most_late}}}

-- for whom the upper router passes it: for a router that joins the group, or that joins the source
abbrev pub asker : Join → Receiver
asker (Star rp) = Receiver.Router
asker (Source src) = Receiver.SourceRouter

-- a Join of the group, or of the stream's own source
abbrev pub IsFor : Join → ℕ → Type 0
IsFor (Star rp) src = Unit {0}
IsFor (Source joined) src = joined ≡ src

-- a Prune of the source off the group's tree takes effect on the interface; s is the state before the event, t the one
-- after
abbrev pub prunes_source : State → State → ℕ → ℕ → ℕ → Option Accepted → Bool
prunes_source s t g src down (Some (Accepted.Advance moment)) = takes_effect s (rpt_key down g src) moment
prunes_source s t g src down (Some (Accepted.JoinPruneToMe j m)) = (j.number == down) && prunes t g src down
prunes_source s t g src down o = false

-- A Prune of the source ends the stream to a router that joined the group, and not to one that joined the source.
abbrev pub is_pruned_off : Join → State → State → ℕ → ℕ → ℕ → Option Accepted → Bool
is_pruned_off (Star rp) s t g src down o = prunes_source s t g src down o
is_pruned_off (Source joined) s t g src down o = false

-- What ends a stream to a router, other than the expiry of its Join.
unfoldable pub ends_otherwise : Join → Tree → State → Event → ℕ → ℕ → ℕ → ℕ → Bool
ends_otherwise x tree s e g src up down =
    let t : State = (step s e).state in
    let done : Option Accepted = done_as (happens s e) in
    takes_link t g src up down done || leaves_tree tree (asker x) t g src up done || is_pruned_off x s t g src down done
    || lacks_room tree t g src

-- No event that comes to the upper router ends the stream by `ends_otherwise`.
abbrev pub NoneEndsOtherwise : Join → Tree → (g src up : ℕ) → Pair → Network → List Move → Type 0
NoneEndsOtherwise x tree g src up c n [] = Unit {0}
NoneEndsOtherwise x tree g src up c n (m ∷ ms) =
    ((e : Event) (st : Station) → event_of n m ≡ Some (c.upper, e) → station_at n c.upper ≡ Some st
    → ends_otherwise x tree st.state e g src up c.down ≡ false)
    × NoneEndsOtherwise x tree g src up c (moved n m).1 ms

-- the upper router passes the stream on to the lower one
pub record IsPassing (x : Join) (tree : Tree) (g src up : ℕ) (c : Pair) (n : Network) : Type 0 where
  pub station : Station
  pub there : station_at n c.upper ≡ Some station
  pub passes : Passes tree (asker x) station.state g src up c.down

-- While Joins come in time and nothing else ends the stream, the upper router goes on passing it, however many moves
-- there are.
abbrev pub JoinsKeepStream : Type 0
JoinsKeepStream = (x : Join) (tree : Tree) (g d src up : ℕ) (started : ℕ → ℕ) (c : Pair) (n : Network) (ms : List Move)
    → IsJoin x g → IsFor x src → d < most_late → ComeInTime x g d started c n ms → Always (Wants x g c.lower) n ms
    → IsPassing x tree g src up c n → NoneEndsOtherwise x tree g src up c n ms
    → Always (IsPassing x tree g src up c) n ms
