-- What a reload leaves in a router.
use Rattle.std.{proofs.Common.{◌≡◌, ℕ, Ok, length, true, subst, sym, ap, ◌∙◌}}
use Rattle.pim_types.{specs.declared.config.Config.Config}
use Rattle.law_events.{specs.Rest.IsAtRest}
use Rattle.pim_model.{specs.{Limits.config_test, State.{State, iface_count, opening, settings_of}}}
use Rattle.law_states.{specs.{Reloading.reload, Placing.{Places, are_places, reload_by}, NearStates.is_near, Reload.config_of}, proofs.{Ground.reload_is_under, Rest.reload_leaves_rest, Moved.placed_reload_is_under, PlacedRest.placed_reload_leaves_rest, NearStates.near_stays}}

-- the configuration of an opening
pub opens_with : (c : Config) (s : State) → s ≡ opening c → config_of s ≡ c
unfolding config_of opening settings_of
opens_with c s is = ap config_of is

module _ (s t n : State) (c : Config) (w : ℕ) (opens : n ≡ opening c) (is : t ≡ (reload s (config_of n) w).0) where
  pub reloaded_is : t ≡ (reload s c w).0
  reloaded_is = is ∙ ap (λ (d : Config). (reload s d w).0) (opens_with c n opens)

  pub reloaded_rests : config_test c ≡ Ok tt → IsAtRest s → IsAtRest t
  reloaded_rests accepted rest = subst IsAtRest (sym reloaded_is) (reload_leaves_rest s c w accepted rest)

  pub reloaded_accepted : config_test c ≡ Ok tt → config_test (config_of t) ≡ Ok tt
  reloaded_accepted accepted =
      subst (λ (d : Config). config_test d ≡ Ok tt) (sym (ap config_of reloaded_is ∙ reload_is_under s c w)) accepted

  pub reloaded_near : is_near s ≡ true → is_near t ≡ true
  reloaded_near near = subst (λ (u : State). is_near u ≡ true) (sym reloaded_is) (near_stays.reload s c w near)

module _ (s t n : State) (m : Places) (c : Config) (w : ℕ) (opens : n ≡ opening c)
    (is : t ≡ (reload_by s m (config_of n) w).0) where
  pub placed_is : t ≡ (reload_by s m c w).0
  placed_is = is ∙ ap (λ (d : Config). (reload_by s m d w).0) (opens_with c n opens)

  pub placed_rests : config_test (config_of s) ≡ Ok tt → config_test c ≡ Ok tt → IsAtRest s → IsAtRest t
  placed_rests was accepted rest = subst IsAtRest (sym placed_is) (placed_reload_leaves_rest s m c w was accepted rest)

  pub placed_accepted : config_test c ≡ Ok tt → config_test (config_of t) ≡ Ok tt
  placed_accepted accepted =
      subst (λ (d : Config). config_test d ≡ Ok tt) (sym (ap config_of placed_is ∙ placed_reload_is_under s m c w)) accepted

  pub placed_near : are_places (iface_count s) (length c.interfaces) m ≡ true → is_near s ≡ true → is_near t ≡ true
  placed_near fit near = subst (λ (u : State). is_near u ≡ true) (sym placed_is) (near_stays.placed s m c w fit near)
