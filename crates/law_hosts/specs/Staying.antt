-- What leaves a group open, and what leaves its group timer as it is.
use Rattle.std.{specs.{List.AllByRecursion, Prelude.{◌≡◌, ℕ, true, false, not, ◌&&◌, ◌==◌, nat_le, Option, Some}}}
use Rattle.igmp_wire.{specs.Values.Record}
use Rattle.pim_types.{specs.declared.event.Event.Event}
use Rattle.pim_model.{specs.{declared.accepted.Accepted.Accepted, Cause.done_as, Querier.{group_end, query_end}, State.State, Step.step}}
use Rattle.law_settled.{specs.Ready.IsSettled}
use Rattle.law_streams.{specs.Copies.happens}
use Rattle.igmp_older.{specs.{Joined.present_end, Open.{IsMildOnInterface, IsOpen, runs_until}}}

-- what may close a group on interface i before t: time that passes to t, the interface going down, a query of the group
-- with S clear, and a report that isn't mild
abbrev pub KeepsOpen : ℕ → ℕ → ℕ → State → Option Accepted → Type 0
KeepsOpen t i g s (Some (Accepted.Advance moment)) = nat_le t moment ≡ false
KeepsOpen t i g s (Some (Accepted.Down j)) = (j.number == i) ≡ false
KeepsOpen t i g s (Some (Accepted.Query j from q)) = ((j.number == i) && ((q.group == g) && not q.suppress)) ≡ false
KeepsOpen t i g s (Some (Accepted.Report j records)) =
    AllByRecursion (IsMildOnInterface t i g (query_end s j.number) (present_end s j.number) j.number) records
KeepsOpen t i g s o = Unit {0}

-- A group that is open is open after an event of `KeepsOpen`.
abbrev pub EventKeepsOpen : Type 0
EventKeepsOpen =
    (t i g : ℕ) (s : State) (e : Event) → IsSettled s → IsOpen t i g s → KeepsOpen t i g s (done_as (happens s e))
    → IsOpen t i g (step s e).state

-- what may change the group timer of a group on interface i, or end it before t: time that passes to t, the interface
-- going down, a query of the group with S clear, and a report that names the group
abbrev pub KeepsTimer : ℕ → ℕ → ℕ → Option Accepted → Type 0
KeepsTimer t i g (Some (Accepted.Advance moment)) = nat_le t moment ≡ false
KeepsTimer t i g (Some (Accepted.Down j)) = (j.number == i) ≡ false
KeepsTimer t i g (Some (Accepted.Query j from q)) = ((j.number == i) && ((q.group == g) && not q.suppress)) ≡ false
KeepsTimer t i g (Some (Accepted.Report j records)) =
    AllByRecursion (λ (r : Record). ((j.number == i) && (r.group == g)) ≡ false) records
KeepsTimer t i g o = Unit {0}

-- A group timer that runs until t at least is as it was after an event of `KeepsTimer`.
abbrev pub EventKeepsTimer : Type 0
EventKeepsTimer =
    (t i g : ℕ) (s : State) (e : Event) → IsSettled s → runs_until t (group_end s i g) ≡ true
    → KeepsTimer t i g (done_as (happens s e)) → group_end (step s e).state i g ≡ group_end s i g
