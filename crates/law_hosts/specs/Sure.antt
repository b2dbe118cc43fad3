-- Rows of older hosts are looked at in time, so that of the rows time that passes leaves what the RFC says.
use Rattle.std.{specs.{List.AllByRecursion, Prelude.{◌≡◌, ℕ, true, max, nat_le, nat_lt, List, map, Ok}}}
use Rattle.pim_types.{specs.{Keys.{group_in, iface_in, same_key, star_key}, declared.{event.{Event.Event, EventKind.EventKind}, fact.Key.Key, outcome.Verdict.Verdict}}}
use Rattle.pim_model.{specs.{Querier.group_end, State.State}}
use Rattle.law_settled.{specs.Ready.{IsSettled, Rises}}
use Rattle.igmp_older.{specs.{Joined.{FrontedRouter, joined, joined_step}, Laws.nobody_known, Open.runs_until, Presence.forgotten, declared.{mode.PresentRow.PresentRow, setting.OlderHosts.OlderHosts}}}

-- a row of an older host, under its group's key, is looked at no later than its own timers expire; unless it is looked
-- at whenever time passes, the group timer runs until then
pub record IsSureRow (s : State) (e : Key × PresentRow) : Type 0 where
  pub lasts : nat_lt 0 (e.1).look ≡ true → runs_until (e.1).look (group_end s (iface_in e.0) (group_in e.0)) ≡ true
  pub within : nat_le (e.1).look (max (e.1).one_end (e.1).two_end) ≡ true
  pub under : same_key (star_key (iface_in e.0) (group_in e.0)) e.0 ≡ true

-- All rows of older hosts rise, and are looked at in time.
pub record IsSure (b : FrontedRouter) : Type 0 where
  pub rises : Rises b.present.rows
  pub rows : AllByRecursion (IsSureRow b.state) b.present.rows

abbrev pub NobodyIsSure : Type 0
NobodyIsSure = (limit : ℕ) (hosts : List OlderHosts) (s : State) → IsSure (nobody_known limit hosts s)

-- After every event the rows of older hosts are looked at in time.
abbrev pub StepIsSure : Type 0
StepIsSure = (b : FrontedRouter) (e : Event) → IsSettled b.state → IsSure b → IsSure (joined_step b e).1

abbrev pub RunIsSure : Type 0
RunIsSure = (b : FrontedRouter) (es : List Event) → IsSettled b.state → IsSure b → IsSure (joined b es).1

-- the timers of a row, without when it is looked at
abbrev pub timers_of : Key × PresentRow → Key × (ℕ × ℕ)
timers_of e = (e.0, ((e.1).one_end, (e.1).two_end))

-- With sure rows time that passes leaves exactly those of whose timers one runs and whose group has a record.
abbrev pub TimeForgets : Type 0
TimeForgets =
    (b : FrontedRouter) (w m : ℕ) → IsSettled b.state → IsSure b
    → (let e : Event = record { draw = w; kind = EventKind.Advance m } in
    let after : FrontedRouter = (joined_step b e).1 in
    (joined_step b e).0.answer ≡ Ok Verdict.Done
    → map timers_of after.present.rows ≡ map timers_of (forgotten after.state.group_records m b.present).rows)
