-- What an event leaves of a router by the specification's step, what another configuration does, and which faults a call
-- has.
use Rattle.std.{specs.Prelude.{Err, List, None, Option, Result, [], ◌++◌, ◌∷◌, ◌≡◌, ◌↔◌, IfSome, IsOkUnless, Some}}
use Rattle.pim_ip.{specs.declared.{fault.Fault.Fault, refusal.Refusal.Refusal}}
use Rattle.pim_types.{specs.declared.{event.Event.Event, outcome.{Emission.Emission, Verdict.Verdict}}}
use Rattle.pim_model.{specs.{State.State, Step.step}}
use Rattle.law_events.{specs.Named.event_named}
use Rattle.pim_state.{specs.declared.touched.Touched.Touched}
use Rattle.pim_event.{specs.{Costs.IsCheap, Disturbing.event_disturbed, Listing.ListsSame, Replacing.NoneReplaced, Staying.OffersStay}}
use Rattle.pim_reloader.{specs.Listing.ListsFacts}
use Rattle.pim_router.{specs.Standing.{Shown, Standing, beginning, standing}}

-- ---- an event

-- What a router tells of an event beside its answer and its packets: what it cost, which sources it named, what it
-- disturbed, and that what is offered of every other source is the same as before it.
pub record TellsEvent (s : State) (e : Event) (left : Shown) : Type 0 where
  pub cheap : IsCheap s e left.probes left.touched
  pub changed : ListsSame left.changed (event_named s e)
  pub disturbed : left.disturbed ≡ event_disturbed s e
  pub stays : OffersStay left.disturbed s (step s e).state

-- A router took an event: it answers as the step does, is in the state that the step leaves, and tells of the event.
pub record TookEvent (s : State) (e : Event) (answered : Result Verdict Refusal) (left : Shown) : Type 0 where
  pub answer : answered ≡ (step s e).answer
  pub state : left.standing ≡ Some (standing (step s e))
  pub tells : TellsEvent s e left

-- A router took an event, and added the packets that the step sends to those that were there.
pub record Stepped (s : State) (e : Event) (before : List Emission) (answered : Result Verdict Refusal) (left : Shown)
    (after : List Emission) : Type 0 where
  pub took : TookEvent s e answered left
  pub sent : after ≡ before ++ (step s e).emissions

-- What a router tells of the last of some events.
abbrev pub TellsLast : State → List Event → Shown → Type 0
TellsLast s [] left = Unit {0}
TellsLast s (e ∷ []) left = TellsEvent s e left
TellsLast s (e ∷ es) left = TellsLast (step s e).state es left

-- ---- another configuration

-- A router was put under another configuration: it stands as at the beginning of this state, lists as changed all sources
-- with a fact in either state, and what it offers of any source may be another.
pub record PutUnder (s t : State) (left : Shown) : Type 0 where
  pub state : left.standing ≡ Some (beginning t)
  pub changed : ListsFacts s t left.changed
  pub disturbed : left.disturbed ≡ record { touched = Touched.All; replaced = NoneReplaced }

-- ---- faults

-- The faults of a call at a router that stood so: one that had failed answers `Failed`, and no other does; its only other
-- fault is want of memory.
pub record Faults {A : Type 0} (result : Result A Fault) (stood : Option Standing) : Type 0 where
  pub failed : (result ≡ Err Fault.Failed) ↔ (stood ≡ None)
  pub memory : IfSome stood (λ r. IsOkUnless result Fault.Memory)
