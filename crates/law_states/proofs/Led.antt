-- What holds of a router between two calls, whatever it was given.
use Rattle.std.{proofs.Common.{◌≡◌, ◌∙◌, ℕ, true, List, [], ◌∷◌, length, Ok, refl, sym, ap, subst}}
use Rattle.pim_types.{specs.declared.{config.Config.Config, event.Event.Event}}
use Rattle.pim_model.{specs.{Limits.config_test, State.{State, iface_count, opening, settings_of}, Step.step, Tables.{has_row, row_at}}}
use Rattle.law_events.{specs.Rest.IsAtRest, proofs.Rest.{opening_is_at_rest, step_is_at_rest}}
use Rattle.law_states.{specs.{Reload.config_of, ReloadLaws.AreConfigured, Reloading.reload, Placing.{Places, are_places, reload_by}, History.{AreAccepted, Given, IsLedTo, state_given}}, proofs.{Accepted.accepted_stays, Ground.reload_is_under, Removed.reload_keeps_configured, Rest.reload_leaves_rest, Moved.placed_reload_is_under, PlacedRest.placed_reload_leaves_rest, Ups.placed_are_configured, Configured.{keep_configures, step_configures}}}
use Rattle.law_plane.{specs.Keeping.{keep, kept_until}, proofs.Keeps.{keep_by, keep_is_at_rest}}

-- it is at rest under an accepted configuration, which has each interface that is up
pub record Led (s : State) : Type 0 where
  pub rest : IsAtRest s
  pub accepted : config_test (config_of s) ≡ Ok tt
  pub configured : AreConfigured s

opening_config : (c : Config) → config_of (opening c) ≡ c
unfolding config_of opening settings_of
opening_config c = refl

none_up : (c : Config) → AreConfigured (opening c)
unfolding opening has_row row_at
none_up c i up = cc up

pub opening_led : (c : Config) → config_test c ≡ Ok tt → Led (opening c)
opening_led c e = record {
  rest = opening_is_at_rest c e;
  accepted = ap config_test (opening_config c) ∙ e;
  configured = none_up c;
}

pub step_led : (s : State) (e : Event) → Led s → Led (step s e).state
step_led s e f = record {
  rest = step_is_at_rest s e f.rest;
  accepted = accepted_stays s e f.accepted;
  configured = step_configures s e f.configured;
}

pub reload_led : (s : State) (c : Config) (w : ℕ) → config_test c ≡ Ok tt → Led s → Led (reload s c w).0
reload_led s c w e f = record {
  rest = reload_leaves_rest s c w e f.rest;
  accepted = ap config_test (reload_is_under s c w) ∙ e;
  configured = reload_keeps_configured s c w f.configured;
}

pub placed_led : (s : State) (m : Places) (c : Config) (w : ℕ) → config_test c ≡ Ok tt
    → are_places (iface_count s) (length c.interfaces) m ≡ true → Led s → Led (reload_by s m c w).0
placed_led s m c w e are f = record {
  rest = placed_reload_leaves_rest s m c w f.accepted e f.rest;
  accepted = ap config_test (placed_reload_is_under s m c w) ∙ e;
  configured = placed_are_configured s m c w are f.configured;
}

kept_accepted : (s : State) (g src m : ℕ) → config_test (config_of s) ≡ Ok tt → config_test (config_of (keep s g src m)) ≡ Ok tt
unfolding config_of kept_until
kept_accepted s g src m e = keep_by s g src m (λ t. config_test (config_of t) ≡ Ok tt) e (λ end runs sooner. e)

pub keep_led : (s : State) (g src m : ℕ) → Led s → Led (keep s g src m)
keep_led s g src m f = record {
  rest = keep_is_at_rest s g src m f.rest;
  accepted = kept_accepted s g src m f.accepted;
  configured = keep_configures s g src m f.configured;
}

-- what all of them keep holds after them
module _ (P : State → Type 0) (steps : (s : State) (e : Event) → Led s → P s → P (step s e).state)
    (reloads : (s : State) (c : Config) (w : ℕ) → config_test c ≡ Ok tt → Led s → P s → P (reload s c w).0)
    (places : (s : State) (m : Places) (c : Config) (w : ℕ) → config_test c ≡ Ok tt
    → are_places (iface_count s) (length c.interfaces) m ≡ true → Led s → P s → P (reload_by s m c w).0)
    (keeps : (s : State) (g src m : ℕ) → Led s → P s → P (keep s g src m)) where
  pub given_keeps : (before : List Given) (s : State) → Led s → AreAccepted s before → P s → P (state_given s before)
  unfolding state_given
  given_keeps [] s led accepted f = f
  given_keeps (Given.Happening e ∷ later) s led accepted f =
      given_keeps later (step s e).state (step_led s e led) accepted (steps s e led f)
  given_keeps (Given.Reload c w ∷ later) s led accepted f =
      given_keeps later (reload s c w).0 (reload_led s c w accepted.0 led) accepted.1 (reloads s c w accepted.0 led f)
  given_keeps (Given.Placed m c w ∷ later) s led accepted f =
      given_keeps later (reload_by s m c w).0 (placed_led s m c w accepted.0 accepted.1 led) accepted.2
      (places s m c w accepted.0 accepted.1 led f)
  given_keeps (Given.Kept g src m ∷ later) s led accepted f =
      given_keeps later (keep s g src m) (keep_led s g src m led) accepted (keeps s g src m led f)

pub given_led : (before : List Given) (s : State) → Led s → AreAccepted s before → Led (state_given s before)
given_led before s led accepted =
    given_keeps Led (λ t e f g. step_led t e f) (λ t c w a f g. reload_led t c w a f)
    (λ t m c w a are f g. placed_led t m c w a are f) (λ t g src m f h. keep_led t g src m f) before s led accepted led

pub is_led : (c : Config) (before : List Given) (s : State) → IsLedTo c before s → Led s
is_led c before s led =
    subst Led (sym led.led) (given_led before (opening c) (opening_led c led.accepted) led.reloads)
