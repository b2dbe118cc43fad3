-- Without own addresses of no interface the own addresses are those of the interfaces, over events and reloads.
use Rattle.std.{proofs.Common.{◌≡◌, ◌∙◌, ℕ, List, [], ◌∷◌, sym, ap, subst}}
use Rattle.pim_types.{specs.declared.config.Config.Config}
use Rattle.pim_model.{specs.{State.{Addressing, State, opening}, Step.step}}
use Rattle.law_streams.{proofs.{Addresses.others_are_of_interfaces, Settings.step_configured}}
use Rattle.law_states.{specs.{Reload.config_of, Reloading.reload, Placing.{Places, reload_by}, History.{Given, state_given}, Own.{HaveNone, LedOwnAreOfInterfaces}}, proofs.{Ground.reload_is_under, Moved.placed_reload_is_under}}
use Rattle.law_plane.{specs.Keeping.{keep, kept_until}, proofs.Keeps.keep_by}

abbrev HasNone : State → Type 0
HasNone s = s.configured.addresses ≡ []

reload_none : (s : State) (c : Config) (w : ℕ) → c.addresses ≡ [] → HasNone (reload s c w).0
unfolding config_of
reload_none s c w none = ap (λ (x : Config). x.addresses) (reload_is_under s c w) ∙ none

placed_none : (s : State) (m : Places) (c : Config) (w : ℕ) → c.addresses ≡ [] → HasNone (reload_by s m c w).0
unfolding config_of
placed_none s m c w none = ap (λ (x : Config). x.addresses) (placed_reload_is_under s m c w) ∙ none

keep_none : (s : State) (g src m : ℕ) → HasNone s → HasNone (keep s g src m)
unfolding kept_until
keep_none s g src m none = keep_by s g src m HasNone none (λ end is sooner. none)

given_none : (before : List Given) (s : State) → HasNone s → HaveNone before → HasNone (state_given s before)
unfolding state_given
given_none [] s none f = none
given_none (Given.Happening e ∷ later) s none f =
    given_none later (step s e).state (ap (λ (cs : Addressing). cs.addresses) (sym (step_configured s e).configured) ∙ none) f
given_none (Given.Reload c w ∷ later) s none f = given_none later (reload s c w).0 (reload_none s c w f.0) f.1
given_none (Given.Placed m c w ∷ later) s none f = given_none later (reload_by s m c w).0 (placed_none s m c w f.0) f.1
given_none (Given.Kept g src m ∷ later) s none f = given_none later (keep s g src m) (keep_none s g src m none) f

opening_none : (c : Config) → c.addresses ≡ [] → HasNone (opening c)
unfolding opening
opening_none c none = none

pub led_own_are_of_interfaces : LedOwnAreOfInterfaces
led_own_are_of_interfaces c before s address led none f =
    others_are_of_interfaces s address (subst HasNone (sym led.led) (given_none before (opening c) (opening_none c none) f))
