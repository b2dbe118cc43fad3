-- Every event, every reload and what a plane reports keep what holds beside rest.
use Rattle.std.{proofs.Common.{◌≡◌, ℕ, Bool, true, length, refl, sym, subst}, specs.{Cmp.{Derive.both_true, first_so, second_so}, List.AllByRecursion}}
use Rattle.pim_types.{specs.declared.{config.Config.Config, event.Event.Event}}
use Rattle.pim_model.{specs.{State.{State, iface_count, opening}, Step.step}}
use Rattle.law_events.{specs.Rest.IsAtRest}
use Rattle.law_settled.{proofs.ListLaws.{each_both, each_more, each_of_list, list_of_each}}
use Rattle.law_states.{specs.{ReloadLaws.next_query_is_near, Reloading.reload, Placing.{Places, are_places, reload_by}, Ends.IsKept, NearStates.{LedStatesAreNear, NearStays, is_near, kept_tests}, Queries.{AppendedLeaveLed, DelaysLeaveLed, LedQueriesAreNear, SameReloadLeavesLed}}, proofs.{Queriers.next_query_is_near_anew, ReloadedSettings.same_reload_changes_nothing, Unseen.{appended_move_nothing, delays_move_nothing}, Histories.led_states_rest, Led.{given_keeps, opening_led}, AssertEnds.asserts_stay_near, Grouped.sources_stay_grouped, StillEnds.{hellos_stay_near, neighbours_stay_keyed, registers_stay_near}, NextQueries.{kept_near, next_query_stays_near, placed_near}, WonAddresses.won_stay_own}}
use Rattle.law_plane.{specs.Keeping.keep}

module _ (s : State) where
  abbrev pub Pass : Type 0
  Pass = AllByRecursion (λ (test : State → Bool). test s ≡ true) kept_tests

  near_is : is_near s ≡ true → (next_query_is_near s ≡ true) × Pass
  unfolding is_near
  near_is e = (first_so (next_query_is_near s) _ e, each_of_list (λ test. test s) kept_tests (second_so (next_query_is_near s) _ e))

  pub near_so : next_query_is_near s ≡ true → Pass → is_near s ≡ true
  unfolding is_near
  near_so queries f = both_true queries (list_of_each (λ test. test s) kept_tests f)

all_kept : AllByRecursion IsKept kept_tests
all_kept =
    (hellos_stay_near, (registers_stay_near, (asserts_stay_near, (won_stay_own, (neighbours_stay_keyed, (sources_stay_grouped, tt))))))

-- what each of them keeps from one state to another, all keep
all_pass : (s t : State) → ((test : State → Bool) → IsKept test → test s ≡ true → test t ≡ true) → Pass s → Pass t
all_pass s t keeps f = each_both IsKept (λ test. test s ≡ true) (λ test. test t ≡ true) keeps kept_tests all_kept f

queries_near : (c : Config) → next_query_is_near (opening c) ≡ true
unfolding opening next_query_is_near
queries_near c = refl

opening_near : (c : Config) → is_near (opening c) ≡ true
opening_near c =
    near_so (opening c) (queries_near c) (each_more IsKept (λ test. test (opening c) ≡ true) (λ test kept. kept.opening c) kept_tests all_kept)

step_near : (s : State) (e : Event) → IsAtRest s → is_near s ≡ true → is_near (step s e).state ≡ true
step_near s e rest h =
    near_so (step s e).state (next_query_stays_near s e rest (near_is s h).0)
    (all_pass s (step s e).state (λ test kept f. kept.step s e f) (near_is s h).1)

reload_near : (s : State) (c : Config) (w : ℕ) → is_near s ≡ true → is_near (reload s c w).0 ≡ true
reload_near s c w h =
    near_so (reload s c w).0 (next_query_is_near_anew s c w)
    (all_pass s (reload s c w).0 (λ test kept f. kept.reload s c w f) (near_is s h).1)

placed_is_near : (s : State) (m : Places) (c : Config) (w : ℕ) → are_places (iface_count s) (length c.interfaces) m ≡ true
    → is_near s ≡ true → is_near (reload_by s m c w).0 ≡ true
placed_is_near s m c w are h =
    near_so (reload_by s m c w).0 (placed_near s m c w)
    (all_pass s (reload_by s m c w).0 (λ test kept f. kept.placed s m c w are f) (near_is s h).1)

keep_near : (s : State) (g src m : ℕ) → is_near s ≡ true → is_near (keep s g src m) ≡ true
keep_near s g src m h =
    near_so (keep s g src m) (kept_near s g src m (near_is s h).0)
    (all_pass s (keep s g src m) (λ test kept f. kept.keep s g src m f) (near_is s h).1)

pub near_stays : NearStays
near_stays = record { opening = opening_near; step = step_near; reload = reload_near; placed = placed_is_near; keep = keep_near }

pub led_states_are_near : LedStatesAreNear
led_states_are_near c before s led =
    subst (λ (t : State). is_near t ≡ true) (sym led.led)
    (given_keeps (λ t. is_near t ≡ true) (λ t e f near. step_near t e f.rest near) (λ t d w a f near. reload_near t d w near)
    (λ t m d w a are f near. placed_is_near t m d w are near) (λ t g src m f near. keep_near t g src m near) before (opening c)
    (opening_led c led.accepted) led.reloads (opening_near c))

pub led_queries_are_near : LedQueriesAreNear
led_queries_are_near c before s led = (near_is s (led_states_are_near c before s led)).0

-- ---- reloads after any events and reloads

pub same_reload_leaves_led : SameReloadLeavesLed
same_reload_leaves_led c before s w led =
    same_reload_changes_nothing s w (led_states_rest c before s led) (led_queries_are_near c before s led)

pub appended_leave_led : AppendedLeaveLed
appended_leave_led c before s more w led are new =
    appended_move_nothing s more w (led_states_rest c before s led) (led_queries_are_near c before s led) are new

pub delays_leave_led : DelaysLeaveLed
delays_leave_led c before s configured w led same own are =
    delays_move_nothing s configured w same own (led_states_rest c before s led) (led_queries_are_near c before s led) are
