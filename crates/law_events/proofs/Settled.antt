-- What is sent upstream, and what becomes packets, changes no answer: so an unnamed source keeps its answers to the end
-- of the event. What is configured stays.
use Rattle.std.{proofs.Common.{◌≡◌, ℕ, false, List, [], length, ◌≤◌, refl, subst, arith}}
use Rattle.pim_types.{specs.Keys.source_key}
use Rattle.pim_model.{specs.{Clearing.clear, declared.accepted.Accepted.Accepted, Firing.{fire_once, fired, settled}, Limits.most_ifaces, Messages.Message, Reach.own_firing, State.{Addressing, State}, Step.{change, done}, Timers.Ending}}
use Rattle.law_events.{specs.{Locality.{AgreesBut, touching}, Keeps.KeepsAnswers, Named.is_source_named}, proofs.{QuietStates.{frame_packets, frame_upstream}, Touches.agrees_then, Agreed.agreed_is_unnamed, Configured.{change_configured, configured_beside, firing_configured}, KeptSources.unnamed_keeps, Reached.{IsConfigured, clearing_keeps}, Through.kept_through}}

agrees_at_end : (o : State) (change : State × List Message) (w : ℕ)
    → AgreesBut (touching []) (clear o change.0).0 (settled o change w).0
unfolding settled
agrees_at_end o change w = grind (arith, agrees_then, frame_upstream, frame_packets)

module _ (o : State) (change : State × List Message) (w : ℕ) (is : IsConfigured o change.0) where
  abbrev after : State
  after = (clear o change.0).0

  abbrev end : State
  end = (settled o change w).0

  after_configured : IsConfigured o after
  after_configured = grind (arith, clearing_keeps)

  end_configured : IsConfigured after end
  end_configured = configured_beside [] after end (agrees_at_end o change w)

  pub settled_configured : IsConfigured o end
  settled_configured = grind (arith, after_configured, end_configured)

  module _ (few : length o.configured.interfaces ≤ most_ifaces) (g src : ℕ) (unnamed : is_source_named g src o after ≡ false) where
    pub settled_keeps : KeepsAnswers g src o end
    unfolding touching
    settled_keeps =
        kept_through g src o after end
        (unnamed_keeps g src o after after_configured.settings after_configured.configured few unnamed)
        (unnamed_keeps g src after end end_configured.settings end_configured.configured
        (subst (λ (cs : Addressing). length cs.interfaces ≤ most_ifaces) after_configured.configured few)
        (agreed_is_unnamed g src after end (agrees_at_end o change w (source_key 0 g src) refl)))

pub event_configured : (s : State) (w : ℕ) (a : Accepted) → IsConfigured s (done s w (change s w a)).state
unfolding done
event_configured s w a = grind (arith, settled_configured, change_configured)

pub fire_configured : (s : State) (w : ℕ) (e : Ending) → IsConfigured s (fire_once w s e).0
unfolding fire_once own_firing
fire_configured s w e = grind (arith, settled_configured, firing_configured)

pub event_keeps : (s : State) (w : ℕ) (a : Accepted) → length s.configured.interfaces ≤ most_ifaces → (g src : ℕ)
    → is_source_named g src s (clear s (change s w a).state).0 ≡ false
    → KeepsAnswers g src s (done s w (change s w a)).state
unfolding done
event_keeps s w a few g src unnamed =
    settled_keeps s ((change s w a).state, (change s w a).messages) w (change_configured s w a) few g src unnamed

pub firing_keeps : (s : State) (w : ℕ) (e : Ending) → length s.configured.interfaces ≤ most_ifaces → (g src : ℕ)
    → is_source_named g src s (clear s (own_firing s e)).0 ≡ false → KeepsAnswers g src s (fire_once w s e).0
unfolding fire_once own_firing
firing_keeps s w e few g src unnamed =
    settled_keeps s (fired (record s { present = e.end }) e.timer.kind e.timer.key) w (firing_configured s e) few g src
    unnamed
