-- A stream to a router goes on while Joins(*,G) come in time: each before the holdtime of the one before has expired.
use Rattle.std.{specs.Prelude.{Bool, List, Option, Some, [], false, if◌then◌else◌, nat_le, not, ℕ, ◌&&◌, ◌*◌, ◌+◌, ◌==◌, ◌||◌, ◌∷◌, ◌≡◌}}
use Rattle.pim_types.{specs.{Keys.{rpt_key, star_key}, declared.event.Event.Event}}
use Rattle.pim_model.{specs.{declared.accepted.Accepted.Accepted, Cause.done_as, Downstream.{holdtime_forever, is_named, joined_keys, pruned_keys}, Sets.prunes, State.State, Step.{state_after, step}}}
use Rattle.law_streams.{specs.{Copies.happens, Joins.HoldsStar, Passing.{Passes, Receiver, Tree, lacks_room, leaves_tree, takes_effect, takes_link}}}

-- A message to the router joins the group on the link, for a holdtime that expires, and doesn't also prune it there; s
-- is the state that it finds.
abbrev pub joins_group : State → ℕ → ℕ → Option Accepted → Bool
joins_group s g down (Some (Accepted.JoinPruneToMe j m)) =
    (j.number == down)
    && (is_named (joined_keys s j.number m) (star_key j.number g)
    && (not (is_named (pruned_keys j.number m) (star_key j.number g))
    && (not (m.holdtime == 0) && not (m.holdtime == holdtime_forever))))
joins_group s g down o = false

-- The timestamp until which the last Join(*,G) of a message holds.
abbrev pub joined_until : State → Option Accepted → ℕ → ℕ
joined_until s (Some (Accepted.JoinPruneToMe j m)) end = s.present + 1000 * m.holdtime
joined_until s o end = end

-- When the router's Join expires after an event, which may be a Join that comes in time.
unfoldable pub next_end : State → Event → ℕ → ℕ → ℕ → ℕ
next_end s e g down end =
    let done : Option Accepted = done_as (happens s e) in
    if joins_group s g down done then joined_until s done end else end

-- The events that aren't in time: an Advance to the Join's expiry or past it; and those that remove the Join: a Prune
-- of the group there, and one of the source that takes effect.
abbrev pub is_late : State → State → ℕ → ℕ → ℕ → ℕ → Option Accepted → Bool
is_late s t g src down end (Some (Accepted.Advance moment)) =
    nat_le end moment || takes_effect s (rpt_key down g src) moment
is_late s t g src down end (Some (Accepted.JoinPruneToMe j m)) =
    (j.number == down) && (is_named (pruned_keys j.number m) (star_key down g) || prunes t g src down)
is_late s t g src down end o = false

-- An event ends the stream at a router whose Join holds until a timestamp.
unfoldable pub ends_in_time : Tree → State → Event → ℕ → ℕ → ℕ → ℕ → ℕ → Bool
ends_in_time tree s e g src up down end =
    let t : State = (step s e).state in
    let done : Option Accepted = done_as (happens s e) in
    takes_link t g src up down done || leaves_tree tree Receiver.Router t g src up done || is_late s t g src down end done
    || lacks_room tree t g src

-- The router passes the stream to another router, whose Join holds until a timestamp at least, and no Prune of the
-- group is pending.
pub record PassesUntil (tree : Tree) (s : State) (g src up down end : ℕ) : Type 0 where
  pub passes : Passes tree Receiver.Router s g src up down
  pub holds : HoldsStar s down g (Some end)

-- An event that `ends_in_time` doesn't list keeps a stream to a router, and how long the router's Join holds.
abbrev pub EventKeepsPassingUntil : Type 0
EventKeepsPassingUntil = (tree : Tree) (s : State) (e : Event) (g src up down end : ℕ)
    → PassesUntil tree s g src up down end → ends_in_time tree s e g src up down end ≡ false
    → PassesUntil tree (step s e).state g src up down (next_end s e g down end)

-- Each event comes before the expiry of the last Join, however long the list is.
abbrev pub AllInTime : Tree → State → List Event → ℕ → ℕ → ℕ → ℕ → ℕ → Type 0
AllInTime tree s [] g src up down end = Unit {0}
AllInTime tree s (e ∷ es) g src up down end =
    (ends_in_time tree s e g src up down end ≡ false)
    × AllInTime tree (step s e).state es g src up down (next_end s e g down end)

-- While Joins come in time the stream goes on, for any number of events.
abbrev pub JoinsInTimeKeepPassing : Type 0
JoinsInTimeKeepPassing = (tree : Tree) (s : State) (events : List Event) (g src up down end : ℕ)
    → PassesUntil tree s g src up down end → AllInTime tree s events g src up down end
    → Passes tree Receiver.Router (state_after s events) g src up down
