-- Whether a state is at rest, as a test.
use Rattle.std.{specs.{List.list_all, Prelude.{Bool, List, [], is_some, nat_lt, not, true, ◌&&◌, ◌||◌, ◌∷◌, ◌≡◌}, Option.option_map_or}}
use Rattle.pim_types.{specs.{Keys.iface_in, declared.fact.{Key.Key, SourceRow.SourceRow}}}
use Rattle.pim_model.{specs.{Clearing.{assert_must_go, spt_must_go}, State.{State, is_up}, Tables.{Table, keys_in}, Timers.{Ending, next_ending}}}
use Rattle.law_settled.{specs.Laws.{ends_after, is_querier_entry, is_under_source, is_under_star}}
use Rattle.law_events.{specs.{Locality.is_register_settled, Rest.IsAtRest}}
use Rattle.pim_saved.{specs.Reading.rise}

-- all of a list of tests pass
abbrev pub all_pass : List Bool → Bool
all_pass [] = true
all_pass (b ∷ bs) = b && all_pass bs

-- no fact must go, and all registers are settled
abbrev pub quiet_tests : State → List Bool
quiet_tests s =
    list_all (λ e. not (assert_must_go s s e)) s.asserts
    ∷ list_all (λ e. not (spt_must_go s e)) s.sources
    ∷ list_all (λ e. is_register_settled s e.0) s.sources
    ∷ list_all (λ e. is_register_settled s e.0) s.registers
    ∷ []

abbrev pub rises : {R : Type 0} → Table R → Bool
rises t = rise (keys_in t)

-- the tests that the keys of each table rise
abbrev pub order_tests : State → List Bool
order_tests s =
    rises s.interfaces
    ∷ rises s.neighbours
    ∷ rises s.queriers
    ∷ rises s.group_records
    ∷ rises s.source_records
    ∷ rises s.group_repeats
    ∷ rises s.source_repeats
    ∷ rises s.sendings
    ∷ rises s.downstream
    ∷ rises s.asserts
    ∷ rises s.join_timers
    ∷ rises s.override_timers
    ∷ rises s.sources
    ∷ rises s.registers
    ∷ []

-- no robustness and no interval is 0, and IGMP's facts are under keys of their kind
abbrev pub firing_tests : State → List Bool
firing_tests s =
    nat_lt 0 s.settings.robustness
    ∷ nat_lt 0 s.settings.query_interval
    ∷ nat_lt 0 s.settings.last_member_query_interval
    ∷ list_all is_querier_entry s.queriers
    ∷ list_all is_under_star s.group_records
    ∷ list_all is_under_source s.source_records
    ∷ list_all is_under_star s.group_repeats
    ∷ list_all is_under_star s.source_repeats
    ∷ []

abbrev pub are_up : {R : Type 0} → State → Table R → Bool
are_up s t = list_all (λ e. is_up s (iface_in e.0)) t

-- no row is of an interface that is down, and a source runs or has SPTbit set
abbrev pub tidy_tests : State → List Bool
tidy_tests s =
    are_up s s.neighbours
    ∷ are_up s s.queriers
    ∷ are_up s s.group_records
    ∷ are_up s s.source_records
    ∷ are_up s s.group_repeats
    ∷ are_up s s.source_repeats
    ∷ are_up s s.sendings
    ∷ are_up s s.downstream
    ∷ are_up s s.asserts
    ∷ list_all (λ (e : Key × SourceRow). is_some (e.1).keepalive || (e.1).spt) s.sources
    ∷ []

-- All tests of a state at rest: those of its tables, and that no timer expired before the present time.
abbrev pub rest_tests : State → List Bool
rest_tests s =
    all_pass (quiet_tests s)
    ∷ all_pass (order_tests s)
    ∷ all_pass (firing_tests s)
    ∷ ends_after s.present s
    ∷ all_pass (tidy_tests s)
    ∷ []

unfoldable pub is_at_rest : State → Bool
is_at_rest s = all_pass (rest_tests s)

-- The test passes exactly where the state is at rest.
abbrev pub RestIsDecided : Type 0
RestIsDecided = (s : State) → (is_at_rest s ≡ true → IsAtRest s) × (IsAtRest s → is_at_rest s ≡ true)

-- All timers expire after the present time if and only if the next one does.
abbrev pub NextTellsAhead : Type 0
NextTellsAhead =
    (s : State) → ends_after s.present s ≡ option_map_or (λ (e : Ending). nat_lt s.present e.end) (next_ending s) true
