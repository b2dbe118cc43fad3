-- What a reload leaves is at rest.
use Rattle.std.{proofs.Common.{◌≡◌, ℕ, Ok, nat_lt}}
use Rattle.pim_types.{specs.declared.config.{Config.Config, RpTable.RpTable}}
use Rattle.pim_model.{specs.{declared.accepted.Accepted.Accepted, Limits.config_test, State.{addressing_of, State, is_up, settings_of}, Step.{change, ran, rps_replaced, state_after}, Unicast.with_ranges}}
use Rattle.law_settled.{specs.Ready.IsSettled, proofs.{Changes.change_fine, FineStates.Anyhow, SettledStates.{fine_is_settled, settled_is_fine}, Steps.later_is_late}}
use Rattle.law_events.{specs.Rest.IsAtRest, proofs.Rest.run_is_at_rest}
use Rattle.law_states.{specs.{ReloadLaws.ReloadLeavesRest, Reloading.{asserts_under, hellos_anew, is_won_before, queriers_under, reload, removals, replaced, under}}, proofs.{Settings.settled_under, Reloads.{follows_at_rest, accepted_setting}, Queriers.queriers_settled, WonAsserts.asserts_settled}}

-- other RP ranges leave a settled state settled
ranges_settled : (s : State) (ranges : RpTable) → IsSettled s → IsSettled (rps_replaced s ranges)
unfolding change rps_replaced
ranges_settled s ranges f =
    let after : Anyhow s.present (nat_lt s.present) (rps_replaced s ranges) =
    change_fine s.present (nat_lt s.present) (is_up s) (later_is_late s.present) s (settled_is_fine s f) 0
    (Accepted.Rps ranges) tt in
    fine_is_settled s.present after.ups (rps_replaced s ranges) after.fine

pub under_settled : (s : State) (c : Config) → config_test c ≡ Ok tt → IsSettled s → IsSettled (under s c)
unfolding under asserts_under is_won_before
under_settled s c e f =
    let asking : State = record s { queriers = queriers_under s (settings_of c) } in
    let anew : State = record asking { asserts = asserts_under s (addressing_of c) } in
    ranges_settled (record anew { settings = settings_of c; configured = addressing_of c; routes = c.routes })
    (with_ranges s.ranges c.rps)
    (settled_under anew (settings_of c) (addressing_of c) c.routes s.ranges (accepted_setting c e)
    (asserts_settled asking (addressing_of c) (queriers_settled s (settings_of c) (accepted_setting c e) f)))

pub replaced_is_at_rest : (s : State) (c : Config) (w : ℕ) → config_test c ≡ Ok tt → IsAtRest s
    → IsAtRest (replaced s c w).0
unfolding replaced
replaced_is_at_rest s c w e h =
    follows_at_rest s (under s c) (hellos_anew s (addressing_of c)) w (under_settled s c e h.settled)

pub reload_leaves_rest : ReloadLeavesRest
unfolding reload state_after
reload_leaves_rest s c w e h =
    replaced_is_at_rest (ran s (removals s c w)).1 c w e (run_is_at_rest s (removals s c w) h)
