-- Routers behind their fronts for RPs that share an address, and then those for older hosts.
use Rattle.std.{specs.Prelude.{List, [], ℕ, ◌++◌, ◌≡◌}}
use Rattle.pim_types.{specs.declared.{event.{Event.Event, EventKind.EventKind}, outcome.{Emission.Emission, Outcome.Outcome}}}
use Rattle.pim_model.{specs.{Network.{Network, moved_at}, State.State}}
use Rattle.pim_net.{specs.Showing.with_sent_at}
use Rattle.igmp_older.{specs.Joined.{FrontedRouter, joined_step}}
use Rattle.pim_anycast.{specs.{Announced.{announced_due, announced_new, is_local, local_keys}, Joined.{event_given, sent_after, sent_before}, declared.set.RpSet.RpSet}}
use Rattle.igmp_older.specs.Joined as older
use Rattle.pim_lab.{specs.declared.shared.Watch.Watch}

-- what leaves after what the router sent, by what was watched and by the router's state then
abbrev pub watched : List RpSet → State → Watch → List Emission
watched sets t (Watch.Source name before) =
    announced_new sets t.ranges before (is_local t name.group.bits name.source.bits) name.group.bits name.source.bits
watched sets t (Watch.Since moment) = announced_due sets t.ranges (local_keys t) moment t.present
watched sets t Watch.Nothing = []

-- what is watched tells what leaves after an event of this kind, whatever the router's state is then
abbrev pub IsWatchOf : List RpSet → State → EventKind → Watch → Type 0
IsWatchOf sets s kind watch = (t : State) → watched sets t watch ≡ sent_after sets s t kind

-- an outcome with packets before and after those that are there
abbrev pub beside : List Emission → Outcome → List Emission → Outcome
beside before o after = record o { emissions = before ++ o.emissions ++ after }

-- ---- one event

-- an event at a router behind both fronts, by what the first gives the second
abbrev pub came_behind : List RpSet → FrontedRouter → Event → Outcome × FrontedRouter
came_behind sets b e = joined_step b (event_given sets b.state e)

-- its outcome, with what the first front sends
unfoldable pub shared_outcome : List RpSet → FrontedRouter → Event → Outcome
shared_outcome sets b e =
    let a : Outcome × FrontedRouter = came_behind sets b e in
    beside (sent_before sets b.state e.kind) a.0 (sent_after sets b.state (a.1).state e.kind)

-- the network after it: the copies leave before what the router sends, and the Null-Registers after it
unfoldable pub shared_network : Network → ℕ → List RpSet → FrontedRouter → Event → Network
shared_network n r sets b e =
    let copied : Network = with_sent_at n r (sent_before sets b.state e.kind) in
    let given : Event = older.event_given b (event_given sets b.state e) in
    with_sent_at (moved_at copied (r, given)).1 r (sent_after sets b.state ((came_behind sets b e).1).state e.kind)
