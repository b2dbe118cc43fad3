-- The test of rest decides it.
use Rattle.std.{proofs.Common.{◌≡◌, Bool, true, false, [], ◌∷◌, refl}, specs.Prelude.List}
use Rattle.pim_model.{specs.{State.{State, opening}, Step.state_after, Tables.keys_in}}
use Rattle.law_settled.{specs.{Laws.IsFirable, Ready.{IsOrdered, IsTidy}}}
use Rattle.law_events.{specs.{Locality.IsQuiet, Rest.IsAtRest}, proofs.Rest.{opening_is_at_rest, run_is_at_rest}}
use Rattle.pim_saved.{proofs.SpelledStates.{do_rise, rises as rises_so}}
use Rattle.law_states.{specs.{Restart.SavedIsAtRest, Resting.{all_pass, firing_tests, is_at_rest, order_tests, quiet_tests, rest_tests, tidy_tests}}}

-- each test of a list passes
abbrev Each : List Bool → Type 0
Each [] = Unit {0}
Each (b ∷ bs) = (b ≡ true) × Each bs

each : (bs : List Bool) → all_pass bs ≡ true → Each bs
each [] e = tt
each (true ∷ bs) e = (refl, each bs e)
each (false ∷ bs) e = absurd cc

all : (bs : List Bool) → Each bs → all_pass bs ≡ true
all [] h = refl
all (true ∷ bs) h = all bs h.1
all (false ∷ bs) h = absurd (none h.0)
  where
    none : {X : Type 0} → false ≡ true → X
    none e = absurd cc

ordered_is : (s : State) → all_pass (order_tests s) ≡ true → IsOrdered s
ordered_is s e =
    let p = each (order_tests s) e in
    record {
      interfaces = rises_so (keys_in s.interfaces) p.0;
      neighbours = rises_so (keys_in s.neighbours) p.1.0;
      queriers = rises_so (keys_in s.queriers) p.1.1.0;
      group_records = rises_so (keys_in s.group_records) p.1.1.1.0;
      source_records = rises_so (keys_in s.source_records) p.1.1.1.1.0;
      group_repeats = rises_so (keys_in s.group_repeats) p.1.1.1.1.1.0;
      source_repeats = rises_so (keys_in s.source_repeats) p.1.1.1.1.1.1.0;
      sendings = rises_so (keys_in s.sendings) p.1.1.1.1.1.1.1.0;
      downstream = rises_so (keys_in s.downstream) p.1.1.1.1.1.1.1.1.0;
      asserts = rises_so (keys_in s.asserts) p.1.1.1.1.1.1.1.1.1.0;
      join_timers = rises_so (keys_in s.join_timers) p.1.1.1.1.1.1.1.1.1.1.0;
      override_timers = rises_so (keys_in s.override_timers) p.1.1.1.1.1.1.1.1.1.1.1.0;
      sources = rises_so (keys_in s.sources) p.1.1.1.1.1.1.1.1.1.1.1.1.0;
      registers = rises_so (keys_in s.registers) p.1.1.1.1.1.1.1.1.1.1.1.1.1.0;
    }

ordered_so : (s : State) → IsOrdered s → all_pass (order_tests s) ≡ true
ordered_so s h = all (order_tests s) (do_rise (keys_in s.interfaces) h.interfaces, (do_rise (keys_in s.neighbours) h.neighbours, (do_rise (keys_in s.queriers) h.queriers, (do_rise (keys_in s.group_records) h.group_records, (do_rise (keys_in s.source_records) h.source_records, (do_rise (keys_in s.group_repeats) h.group_repeats, (do_rise (keys_in s.source_repeats) h.source_repeats, (do_rise (keys_in s.sendings) h.sendings, (do_rise (keys_in s.downstream) h.downstream, (do_rise (keys_in s.asserts) h.asserts, (do_rise (keys_in s.join_timers) h.join_timers, (do_rise (keys_in s.override_timers) h.override_timers, (do_rise (keys_in s.sources) h.sources, (do_rise (keys_in s.registers) h.registers, tt))))))))))))))

pub firable_is : (s : State) → all_pass (firing_tests s) ≡ true → IsFirable s
firable_is s e =
    let p = each (firing_tests s) e in
    record {
      robustness = p.0;
      query_interval = p.1.0;
      last_member_query_interval = p.1.1.0;
      queriers = p.1.1.1.0;
      group_records = p.1.1.1.1.0;
      source_records = p.1.1.1.1.1.0;
      group_repeats = p.1.1.1.1.1.1.0;
      source_repeats = p.1.1.1.1.1.1.1.0;
    }

pub firable_so : (s : State) → IsFirable s → all_pass (firing_tests s) ≡ true
firable_so s h = all (firing_tests s) (h.robustness, (h.query_interval, (h.last_member_query_interval, (h.queriers, (h.group_records, (h.source_records, (h.group_repeats, (h.source_repeats, tt))))))))

pub tidy_is : (s : State) → all_pass (tidy_tests s) ≡ true → IsTidy s
tidy_is s e =
    let p = each (tidy_tests s) e in
    record {
      neighbours = p.0;
      queriers = p.1.0;
      group_records = p.1.1.0;
      source_records = p.1.1.1.0;
      group_repeats = p.1.1.1.1.0;
      source_repeats = p.1.1.1.1.1.0;
      sendings = p.1.1.1.1.1.1.0;
      downstream = p.1.1.1.1.1.1.1.0;
      asserts = p.1.1.1.1.1.1.1.1.0;
      sources = p.1.1.1.1.1.1.1.1.1.0;
    }

pub tidy_so : (s : State) → IsTidy s → all_pass (tidy_tests s) ≡ true
tidy_so s h = all (tidy_tests s) (h.neighbours, (h.queriers, (h.group_records, (h.source_records, (h.group_repeats, (h.source_repeats, (h.sendings, (h.downstream, (h.asserts, (h.sources, tt))))))))))

quiet_is : (s : State) → all_pass (quiet_tests s) ≡ true → IsQuiet s
quiet_is s e =
    let p = each (quiet_tests s) e in
    record { clear = record { asserts = p.0; sources = p.1.0 }; sources_settled = p.1.1.0; registers_settled = p.1.1.1.0 }

quiet_so : (s : State) → IsQuiet s → all_pass (quiet_tests s) ≡ true
quiet_so s h = all (quiet_tests s) (h.clear.asserts, (h.clear.sources, (h.sources_settled, (h.registers_settled, tt))))

pub rest_is : (s : State) → is_at_rest s ≡ true → IsAtRest s
unfolding is_at_rest
rest_is s e =
    let p = each (rest_tests s) e in
    record {
      quiet = quiet_is s p.0;
      settled = record {
        ordered = ordered_is s p.1.0;
        ahead = record { firable = firable_is s p.1.1.0; present = refl; ends = p.1.1.1.0 };
        tidy = tidy_is s p.1.1.1.1.0;
      };
    }

pub rest_so : (s : State) → IsAtRest s → is_at_rest s ≡ true
unfolding is_at_rest
rest_so s h =
    all (rest_tests s) (
      quiet_so s h.quiet,
      (
        ordered_so s h.settled.ordered,
        (
          firable_so s h.settled.ahead.firable,
          (h.settled.ahead.ends, (tidy_so s h.settled.tidy, tt)),
        ),
      ),
    )

pub saved_is_at_rest : SavedIsAtRest
saved_is_at_rest c events accepted =
    rest_so (state_after (opening c) events) (run_is_at_rest (opening c) events (opening_is_at_rest c accepted))
