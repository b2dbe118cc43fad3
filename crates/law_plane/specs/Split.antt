-- A router whose data plane is split: a plane has rows, which it was given, and decides packets by them. The core hears
-- of these packets late, and only of the last one of each source; after an event of its own it gives the named rows
-- again. What is decided of sources without a fact is valid until that event.
use Rattle.std.{specs.{List.list_all, Prelude.{Bool, List, None, Ok, Option, Some, [], filter, if◌then◌else◌, length, nat_le, nat_lt, not, ℕ, ◌&&◌, ◌++◌, ◌+◌, ◌∷◌}}}
use Rattle.pim_ip.{specs.Ipv4.Packet}
use Rattle.pim_types.{specs.{declared.{config.IfaceId.IfaceId, event.{Event.Event, EventKind.EventKind}, fact.Key.Key, outcome.{Outcome.Outcome, Verdict.Verdict}}, Keys.same_key}}
use Rattle.law_settled.{specs.Laws.ends_after}
use Rattle.pim_model.{specs.{declared.accepted.Accepted.Accepted, Judging.{Judged, judged, last_moment}, Limits.most_ifaces, Plain.fact_key, Registers.keepalive_period, Sets.Set, State.State, Step.{Answered, outcome_of, state_after, step}, Writing.copies_of}}
use Rattle.law_events.{specs.Named.event_named}
use Rattle.law_plane.{specs.{Offload.{Handling, Row, handling, unknown_of}, ToldLaws.{PlaneRows, told_anew}}}

-- ---- what the core has yet to hear

-- A packet of a source passed at a timestamp.
pub record Notice : Type 0 where
  pub moment : ℕ
  pub source : Key
  pub packet : Event

-- A router whose data plane forwards apart from it: its core, the plane's rows, and what the core has yet to hear.
pub record Split : Type 0 where
  pub core : State
  -- the rows of the plane
  pub rows : PlaneRows
  -- the timestamp up to which time has passed: the core's present time or later
  pub now : ℕ
  -- the notices that the core hasn't heard yet, by timestamp, one for each source
  pub owed : List Notice

-- A split data plane in which nothing is owed.
abbrev pub whole : State → PlaneRows → Split
whole s rows = record { core = s; rows = rows; now = s.present; owed = [] }

-- The notices with a new one, in place of an earlier one of its source.
unfoldable pub noted : Notice → List Notice → List Notice
noted n owed = filter (λ (o : Notice). not (same_key n.source o.source)) owed ++ n ∷ []

-- ---- the core catches up

-- The event by which time passes to a timestamp.
abbrev pub advance_to : ℕ → Event
advance_to m = record { draw = 0; kind = EventKind.Advance m }

-- The data events of the packets, each at its timestamp, and then the present time.
unfoldable pub replayed : ℕ → List Notice → List Event
replayed now [] = advance_to now ∷ []
replayed now (n ∷ ns) = advance_to n.moment ∷ n.packet ∷ replayed now ns

-- The state of the core once it has heard of all that is owed.
abbrev pub caught_up : Split → State
caught_up x = state_after x.core (replayed x.now x.owed)

-- ---- a step

-- The outcome of a packet of which copies leave on some links.
abbrev pub sent : State → Packet → Set → Outcome
sent s p list = record { answer = Ok Verdict.Done; emissions = copies_of s p list; copies = length (copies_of s p list) }

-- The outcome of an event by which nothing is sent.
abbrev pub nothing_sent : Outcome
nothing_sent = record { answer = Ok Verdict.Done; emissions = []; copies = 0 }

-- The core hears of what is owed, and then of the event; the rows that the event names are given again.
unfoldable pub by_core : Split → Event → Split × Outcome
by_core x e =
    let before : State = caught_up x in
    let a : Answered = step before e in
    (whole a.state (told_anew (event_named before e) a.state x.rows), outcome_of a)

-- The plane notes that the source of a packet is alive, if that is so.
unfoldable pub with_notice : Split → Event → Packet → Bool → Split
with_notice x e p alive = record x {
  owed = (if alive then noted (record { moment = x.now; source = fact_key p; packet = e }) x.owed else x.owed);
}

-- What the row of a source, or what is decided of a source without one, has the plane do.
abbrev pub handled_at : Option Row → Handling → ℕ → Handling
handled_at None unknown i = unknown
handled_at (Some row) unknown i = handling row i

-- How a packet is handled: by its row, or as one of a source without a fact; on an interface that can't be configured
-- it goes to the core.
unfoldable pub handled_by : Split → IfaceId → Packet → Handling
handled_by x i p =
    if nat_lt i.number most_ifaces
    then handled_at (x.rows p.destination p.source) (unknown_of x.core i p) i.number else Handling.ToCore

-- A packet that the plane forwards or drops, or hands to the core.
abbrev pub by_plane : Split → Event → Packet → Handling → Split × Outcome
by_plane x e p (Handling.Forward alive list) = (with_notice x e p alive, sent x.core p list)
by_plane x e p Handling.Drop = (x, nothing_sent)
by_plane x e p Handling.ToCore = by_core x e

-- By this timestamp no timer of the core expires, nor a keepalive timer of what is owed.
unfoldable pub passes_quietly : Split → ℕ → Bool
passes_quietly x m =
    nat_le x.now m && nat_le m last_moment && ends_after m x.core
    && list_all (λ (n : Notice). nat_lt m (n.moment + keepalive_period)) x.owed

-- Time passes: quietly, or as an event of the core's.
unfoldable pub time_goes : Split → Event → ℕ → Split × Outcome
time_goes x e m = if passes_quietly x m then (record x { now = m }, nothing_sent) else by_core x e

-- An event as it was judged: a packet goes by the plane, all else to the core.
abbrev pub by_judgement : Split → Event → Judged → Split × Outcome
by_judgement x e (Ok (Accepted.Data i p)) = by_plane x e p (handled_by x i p)
by_judgement x e _ = by_core x e

-- An event of some kind: time, or what is judged.
abbrev pub by_kind : Split → Event → EventKind → Split × Outcome
by_kind x e (EventKind.Advance m) = time_goes x e m
by_kind x e kind = by_judgement x e (judged x.core kind)

-- One event at a split router: its outcome, and what is left.
unfoldable pub split_step : Split → Event → Split × Outcome
split_step x e = by_kind x e e.kind

-- Events at a split router: their outcomes, and what is left.
unfoldable pub split_ran : Split → List Event → List Outcome × Split
split_ran x [] = ([], x)
split_ran x (e ∷ es) =
    let first : Split × Outcome = split_step x e in
    let later : List Outcome × Split = split_ran first.0 es in
    (first.1 ∷ later.0, later.1)
