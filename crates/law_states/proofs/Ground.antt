-- A reload leaves the state under its configuration, at rest.
use Rattle.std.{proofs.Common.{◌≡◌, ℕ, refl, ap, ◌∙◌}}
use Rattle.pim_types.{specs.declared.config.Config.Config}
use Rattle.pim_model.{specs.{State.{State, addressing_of, settings_of}, Step.{ran, rps_replaced}}}
use Rattle.law_events.{proofs.Configured.ground}
use Rattle.law_states.{specs.{Reload.config_of, ReloadLaws.ReloadIsUnder, Reloading.{hellos_anew, reload, removals, replaced, under}}, proofs.Accepted.{settled_ground, config_by}}

ground_under : (s : State) (c : Config) → config_by (ground (under s c)) ≡ c
unfolding under rps_replaced settings_of
ground_under s c = refl

pub replaced_is_under : (s : State) (c : Config) (w : ℕ) → config_of (replaced s c w).0 ≡ c
unfolding replaced config_of
replaced_is_under s c w =
    ap config_by (settled_ground s (under s c, hellos_anew s (addressing_of c)) w) ∙ ground_under s c

pub reload_is_under : ReloadIsUnder
unfolding reload
reload_is_under s c w = replaced_is_under (ran s (removals s c w)).1 c w
