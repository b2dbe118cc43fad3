-- A group that its hosts left: its receivers are gone a known time after the last report (RFC 3376, 6.5 and 8.4).
use Rattle.std.{specs.{List.list_any, Prelude.{Bool, List, None, Option, Some, [], false, nat_le, true, ℕ, ◌&&◌, ◌==◌, ◌∷◌, ◌≡◌, ◌≤◌}}}
use Rattle.pim_types.{specs.declared.event.Event.Event}
use Rattle.igmp_wire.{specs.Values.Record}
use Rattle.pim_model.{specs.{declared.accepted.Accepted.Accepted, Cause.done_as, Querier.group_end, Receivers.local_receiver_star, State.State, Step.{state_after, step}}}
use Rattle.law_settled.{specs.Ready.IsSettled}
use Rattle.law_streams.{specs.Copies.happens}

-- a report on the interface that names the group
abbrev pub names_group : ℕ → ℕ → Option Accepted → Bool
names_group i g (Some (Accepted.Report j records)) = (j.number == i) && list_any (λ (r : Record). r.group == g) records
names_group i g o = false

-- no event is such a report
abbrev pub AreSilent : ℕ → ℕ → State → List Event → Type 0
AreSilent i g s [] = Unit {0}
AreSilent i g s (e ∷ es) = (names_group i g (done_as (happens s e)) ≡ false) × AreSilent i g (step s e).state es

-- a timer doesn't run, or ends by a timestamp
abbrev pub ends_within : ℕ → Option ℕ → Bool
ends_within bound None = true
ends_within bound (Some end) = nat_le end bound

-- From the end of its group timer on a group that no report names has no receivers of all its sources on the interface.
abbrev pub LeftGroupEnds : Type 0
LeftGroupEnds = (s : State) (events : List Event) (i g bound : ℕ) → IsSettled s → ends_within bound (group_end s i g) ≡ true
    → AreSilent i g s events → bound ≤ (state_after s events).present → local_receiver_star (state_after s events) g i ≡ false
