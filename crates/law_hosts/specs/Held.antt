-- How long a group of an older host is held, by a router behind the front.
use Rattle.std.{specs.{List.AllByRecursion, Prelude.{◌≡◌, ℕ, Bool, true, false, not, ◌&&◌, ◌||◌, ◌==◌, nat_le, nat_lt, List, [], ◌∷◌, Option, Some, Ok}}}
use Rattle.igmp_wire.{specs.{Values.Record, declared.report.RecordType.RecordType}}
use Rattle.pim_types.{specs.declared.{event.{Event.Event, EventKind.EventKind}, config.IfaceId.IfaceId, outcome.Verdict.Verdict}}
use Rattle.pim_model.{specs.{declared.accepted.Accepted.Accepted, Cause.done_as, Querier.query_end, Receivers.{local_receiver_exclude, local_receiver_star}, State.State}}
use Rattle.law_settled.{specs.Ready.IsSettled}
use Rattle.law_streams.{specs.Copies.happens}
use Rattle.igmp_older.{specs.{Joined.{FrontedRouter, event_given, joined, joined_step, present_end, rows_of}, Open.IsOpen, Modes.is_report, Presence.{has_room, hosts_on, timers_at}, Translation.{Translation, translation}, declared.{older.Older.Older, mode.PresentRow.PresentRow}}}

-- a timer of an older host runs until t at least
abbrev pub knows_until : ℕ → PresentRow → Bool
knows_until t row = nat_le t row.one_end || nat_le t row.two_end

-- until t at least the group is open on the interface, and the front knows of an older host
pub record IsHeld (t i g : ℕ) (b : FrontedRouter) : Type 0 where
  pub open_there : IsOpen t i g b.state
  pub known : knows_until t (timers_at b.present.rows i g) ≡ true

-- of what the router takes: a query of the group with S clear, and a TO_IN of it whose query isn't answered by t, may
-- end it; a Leave is such a TO_IN. No BLOCK, and no source of a TO_EX does
abbrev pub TakenHolds : ℕ → ℕ → ℕ → State → Option Accepted → Type 0
TakenHolds t i g s (Some (Accepted.Query j from q)) = ((j.number == i) && ((q.group == g) && not q.suppress)) ≡ false
TakenHolds t i g s (Some (Accepted.Report j records)) =
    (j.number == i) ≡ true
    → AllByRecursion (λ (r : Record). r.group ≡ g → r.type ≡ RecordType.ToInclude → nat_le t (query_end s i) ≡ true) records
TakenHolds t i g s o = Unit {0}

-- time to t, and the interface going down
abbrev pub KindHolds : ℕ → ℕ → EventKind → Type 0
KindHolds t i (EventKind.Advance moment) = nat_le t moment ≡ false
KindHolds t i (EventKind.Down j) = (j.number == i) ≡ false
KindHolds t i kind = Unit {0}

-- an event before t that doesn't end it, while the querier's values don't shorten [Group Membership Interval] to before
-- t
pub record MayHold (t i g : ℕ) (b : FrontedRouter) (e : Event) : Type 0 where
  pub before : nat_lt b.state.present t ≡ true
  pub whole : nat_le t (present_end b.state i) ≡ true
  pub kind : KindHolds t i e.kind
  pub taken : TakenHolds t i g b.state (done_as (happens b.state (event_given b e)))

-- A group that is held is held after an event of `MayHold`.
abbrev pub EventKeepsHeld : Type 0
EventKeepsHeld =
    (t i g : ℕ) (b : FrontedRouter) (e : Event) → IsSettled b.state → IsHeld t i g b → MayHold t i g b e → IsHeld t i g (joined_step b e).1

-- Each of a list of events is one of `MayHold`.
abbrev pub AllMayHold : (t i g : ℕ) → FrontedRouter → List Event → Type 0
AllMayHold t i g b [] = Unit {0}
AllMayHold t i g b (e ∷ es) = MayHold t i g b e × AllMayHold t i g (joined_step b e).1 es

abbrev pub RunKeepsHeld : Type 0
RunKeepsHeld =
    (t i g : ℕ) (b : FrontedRouter) (es : List Event) → IsSettled b.state → IsHeld t i g b → AllMayHold t i g b es
    → IsHeld t i g (joined b es).1

-- A held group has a receiver on the interface, from every source.
abbrev pub HeldIsServed : Type 0
HeldIsServed =
    (t i g : ℕ) (b : FrontedRouter) → IsHeld t i g b
    → (local_receiver_star b.state g i ≡ true) × ((src : ℕ) → local_receiver_exclude b.state g src i ≡ false)

-- a report of an older host that the router takes holds its group for [Older Host Present Interval], where the front
-- has room for its row
abbrev pub OlderBegins : Type 0
OlderBegins =
    (b : FrontedRouter) (w : ℕ) (i : IfaceId) (bytes : List ℕ) (t : Translation) (older : Older) (g : ℕ)
    → translation (rows_of b) b.state.present i.number (hosts_on b.present i.number) bytes ≡ Some t → t.older ≡ Some older → is_report older.kind ≡ true
    → older.group.bits ≡ g → has_room b.present i.number g ≡ true
    → (let e : Event = record { draw = w; kind = EventKind.Frame i bytes } in
    (joined_step b e).0.answer ≡ Ok Verdict.Done → IsHeld (present_end b.state i.number) i.number g (joined_step b e).1)
