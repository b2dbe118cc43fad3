-- What an event does to a session that doesn't take it.
use Rattle.std.{specs.Prelude.{Bool, Err, IfSome, IsTrue, None, Ok, Result, [], false, length, nat_lt, not, option_map, true, ◌&&◌, ◌≡◌, ◌↔◌}}
use Rattle.pim_ip.{specs.declared.fault.Fault.Fault}
use Rattle.pim_event.{specs.{Listing.ListsSame, Replacing.NoneReplaced}}
use Rattle.pim_state.{specs.declared.touched.Touched.Touched}
use Rattle.pim_types.{specs.declared.event.EventKind.EventKind}
use Rattle.pim_guard.{specs.Guard.is_stopped}
use Rattle.pim_router.{specs.Standing.{Shown, Standing, beginning, nothing_shown}}
use Rattle.pim_session.{specs.{Session.ShownSession, declared.stop.Stop.Stop}}

-- packets of the last event are untaken
abbrev pub has_untaken : ShownSession → Bool
has_untaken s = nat_lt 0 (length s.sent)

-- the guard stops an event, which it is shown where no packets are untaken
abbrev pub is_guarded : ShownSession → EventKind → Bool
is_guarded s kind = not (has_untaken s) && is_stopped s.guard kind

-- When a call stops before it begins: where the session has failed, and where packets of the event before are untaken.
pub record Stops {A : Type 0} (result : Result A Stop) (old : ShownSession) : Type 0 where
  pub failed : (result ≡ Err (Stop.Fault Fault.Failed)) ↔ (old.router.standing ≡ None)
  pub untaken : IfSome old.router.standing (λ r. (result ≡ Err Stop.Untaken) ↔ IsTrue (has_untaken old))

-- What a user set stays: whether the guard is on, and the sets of RPs.
pub record SettingsStay (old new : ShownSession) : Type 0 where
  pub guard : new.guard ≡ old.guard
  pub sets : new.sets ≡ old.sets

-- What a router shows after an event that the guard before it stopped: it is in the same state, so that whatever led to
-- that led to this. It made no copies, lists no source as changed, and disturbed nothing.
pub record IsStill (old new : Shown) : Type 0 where
  pub standing : new.standing ≡ option_map (λ (r : Standing). beginning r.state) old.standing
  pub changed : ListsSame new.changed []
  pub disturbed : new.disturbed ≡ record { touched = Touched.Keys []; replaced = NoneReplaced }

-- Where packets are untaken nothing changes; where the guard stopped the event the router stays as it is; after a fault
-- the session has failed.
abbrev pub Stopped : Stop → ShownSession → ShownSession → Type 0
Stopped Stop.Untaken old new = new ≡ old
Stopped Stop.Guarded old new = IsStill old.router new.router × (new.front ≡ old.front)
Stopped (Stop.Fault fault) old new = (new.router ≡ nothing_shown) × (new.front ≡ None)

-- of a session that hasn't failed
abbrev pub IsMemoryAlone : Stop → Type 0
IsMemoryAlone Stop.Untaken = Unit {0}
IsMemoryAlone Stop.Guarded = ⊥
IsMemoryAlone (Stop.Fault fault) = fault ≡ Fault.Memory

-- of a session that hasn't failed, and whose guard stops the event or doesn't
abbrev pub IsMemoryUnless : Bool → Stop → Type 0
IsMemoryUnless stopped Stop.Untaken = Unit {0}
IsMemoryUnless stopped Stop.Guarded = IsTrue stopped
IsMemoryUnless stopped (Stop.Fault fault) = fault ≡ Fault.Memory

-- An event was answered: by the router, or as one that the guard stops.
abbrev pub IsAnswered : {A : Type 0} → Bool → Result A Stop → Type 0
IsAnswered stopped (Ok answer) = stopped ≡ false
IsAnswered stopped (Err stop) = (stopped ≡ true) × (stop ≡ Stop.Guarded)
