-- What another configuration leaves is at rest.
use Rattle.std.{proofs.Common.{◌≡◌, ℕ, nat_lt, List, [], Ok, refl}}
use Rattle.pim_types.{specs.declared.config.Config.Config}
use Rattle.pim_model.{specs.{Firing.settled, Limits.config_test, Messages.Message, Querier.each_in_turn, Writing.{all_written, write_all}, State.{addressing_of, State, is_up, opening, settings_of}, Unicast.with_ranges}}
use Rattle.law_settled.{specs.{Laws.IsAhead, Ready.IsSettled}, proofs.{FiringLaws.opening_is_ahead, SettledStates.{fine_is_settled, settled_is_fine}, Upstream.settled_fine, Steps.later_is_late}}
use Rattle.law_events.{specs.Rest.IsAtRest, proofs.{SettledRegisters.settling_quiets, Differing.nothing_follows, OwnKeys.sources_once}}
use Rattle.law_states.{specs.Reload.{IsSetting, ReloadIsAtRest, SameConfigurationChangesNothing, config_of, reconfigured, reloaded}, proofs.Settings.settled_under}

-- what follows of any settled state leaves one at rest, whatever the opening was, and whatever else is sent
pub follows_at_rest : (o t : State) (messages : List Message) (w : ℕ) → IsSettled t
    → IsAtRest (settled o (t, messages) w).0
follows_at_rest o t messages w f = record {
  quiet = settling_quiets o (t, messages) w (sources_once t.sources f.ordered.sources);
  settled =
      fine_is_settled t.present (is_up t) (settled o (t, messages) w).0
      (settled_fine t.present (nat_lt t.present) (is_up t) (later_is_late t.present) o (t, messages) w (settled_is_fine t f));
}

pub accepted_setting : (c : Config) → config_test c ≡ Ok tt → IsSetting (settings_of c)
unfolding opening
accepted_setting c e =
    let ahead : IsAhead 0 (opening c) = opening_is_ahead c e in
    record {
      robustness = ahead.firable.robustness;
      query_interval = ahead.firable.query_interval;
      last_member_query_interval = ahead.firable.last_member_query_interval;
    }

pub reload_is_at_rest : ReloadIsAtRest
unfolding reloaded reconfigured
reload_is_at_rest s c w e h =
    follows_at_rest s (reconfigured s c) [] w
    (settled_under s (settings_of c) (addressing_of c) c.routes (with_ranges s.ranges c.rps)
    (accepted_setting c e) h.settled)

pub same_configuration_changes_nothing : SameConfigurationChangesNothing
unfolding reloaded reconfigured config_of settings_of write_all all_written each_in_turn
same_configuration_changes_nothing s w h = nothing_follows s h.quiet (s, []) w (λ k out. refl)
