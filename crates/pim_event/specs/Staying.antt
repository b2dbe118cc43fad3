-- Which sources are unchanged, whether they have a fact or not: all that aren't disturbed.
use Rattle.std.{specs.Prelude.{Bool, List, [], false, if◌then◌else◌, not, true, ℕ, ◌||◌, ◌∷◌, ◌≡◌}}
use Rattle.pim_types.{specs.declared.event.Event.Event}
use Rattle.pim_model.{specs.{declared.accepted.Accepted.Accepted, State.State, Step.step}}
use Rattle.law_events.{specs.Adjacent.hello_keeps_dr}
use Rattle.pim_state.{specs.declared.touched.Touched.Touched}
use Rattle.pim_fanout.{specs.Disturbed.is_disturbed}
use Rattle.law_plane.{specs.{Offered.offered, Staying.{OffersAlike, SourceStays, is_rerouting}}}
use Rattle.pim_event.{specs.Replacing.{Disturbance, may_differ}}

-- The event may change of which interfaces the router is the DR: one goes up or down, or a Hello changes it.
unfoldable pub moves_dr : State → Accepted → Bool
moves_dr s (Accepted.Up i) = true
moves_dr s (Accepted.Down i) = true
moves_dr s (Accepted.Hello i from h) = not (hello_keeps_dr s i.number from.bits h)
moves_dr s a = false

-- The event may move sources without facts: by new routes or RP ranges, or on a link of which the router becomes the DR,
-- or is no more.
abbrev pub moves_all : State → Accepted → Bool
moves_all s a = is_rerouting a || moves_dr s a

-- What an event touches of what is offered: all sources where it may move those without facts; else what it touches.
abbrev pub disturbed_by : State → Accepted → Touched → Touched
disturbed_by s a touched = if moves_all s a then Touched.All else touched

-- Of a source that isn't touched the fact and the answers are the same in both states.
abbrev pub StaysBeside : Touched → State → State → Type 0
StaysBeside disturbed s t = (g src : ℕ) → is_disturbed disturbed g src ≡ false → SourceStays g src s t

-- What is offered to a data plane of a source that isn't touched is the same in two states.
abbrev pub UntouchedOffersStay : Touched → State → State → Type 0
UntouchedOffersStay touched s t = (g src : ℕ) → is_disturbed touched g src ≡ false
    → OffersAlike (offered s g src) (offered t g src)

-- What is offered to a data plane of a source is the same in two states, unless the offer may differ.
abbrev pub OffersStay : Disturbance → State → State → Type 0
OffersStay disturbed s t = (g src : ℕ) → may_differ disturbed t g src ≡ false
    → OffersAlike (offered s g src) (offered t g src)

-- The last event of a list leaves what is offered of a source that it doesn't disturb.
abbrev pub LastOffersStay : State → List Event → Disturbance → Type 0
LastOffersStay s [] disturbed = Unit {0}
LastOffersStay s (e ∷ []) disturbed = OffersStay disturbed s (step s e).state
LastOffersStay s (e ∷ es) disturbed = LastOffersStay (step s e).state es disturbed
