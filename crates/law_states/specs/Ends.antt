-- How far ahead timers expire at most: tests of a state, which every event and every reload keeps.
use Rattle.std.{specs.{List.list_all, Prelude.{Bool, None, Option, Some, length, nat_le, true, ℕ, ◌+◌, ◌≡◌}}}
use Rattle.pim_types.{specs.declared.{config.Config.Config, event.Event.Event, fact.{AssertRow.AssertRow, InterfaceRow.InterfaceRow, Key.Key, RegisterRow.RegisterRow}}}
use Rattle.pim_model.{specs.{Asserts.loser_time, Hellos.hello_period, State.{State, iface_count, opening}, Step.step, Timers.register_end}}
use Rattle.law_states.{specs.{Reloading.reload, Placing.{Places, are_places, reload_by}}}
use Rattle.law_plane.{specs.Keeping.keep}

-- each next Hello leaves within Hello_Period
unfoldable pub hellos_are_near : State → Bool
hellos_are_near s = list_all (λ (e : Key × InterfaceRow). nat_le (e.1).hello_end (s.present + hello_period)) s.interfaces

-- each Assert Timer expires within Assert_Time
unfoldable pub asserts_are_near : State → Bool
asserts_are_near s = list_all (λ (e : Key × AssertRow). nat_le (e.1).end (s.present + loser_time)) s.asserts

-- Register_Suppression_Time, drawn up to 1.5 times, less Register_Probe_Time (RFC 7761, section 4.4.1), in ms
abbrev pub longest_stop : ℕ
longest_stop = 85000

-- a timer that runs expires by a timestamp
abbrev pub ends_by : ℕ → Option ℕ → Bool
ends_by last None = true
ends_by last (Some end) = nat_le end last

-- each Register-Stop Timer expires within the longest time that is drawn for it
unfoldable pub registers_are_near : State → Bool
registers_are_near s =
    list_all (λ (e : Key × RegisterRow). ends_by (s.present + longest_stop) (register_end (e.1).state)) s.registers

-- A test that holds at the opening, and that each event, each reload and what a plane reports by `keep` keep, of any state.
pub record IsKept (test : State → Bool) : Type 0 where
  pub opening : (c : Config) → test (opening c) ≡ true
  pub step : (s : State) (e : Event) → test s ≡ true → test (step s e).state ≡ true
  pub reload : (s : State) (c : Config) (w : ℕ) → test s ≡ true → test (reload s c w).0 ≡ true
  pub placed : (s : State) (m : Places) (c : Config) (w : ℕ) → are_places (iface_count s) (length c.interfaces) m ≡ true
      → test s ≡ true → test (reload_by s m c w).0 ≡ true
  pub keep : (s : State) (g src m : ℕ) → test s ≡ true → test (keep s g src m) ≡ true

abbrev pub HellosStayNear : Type 0
HellosStayNear = IsKept hellos_are_near

abbrev pub AssertsStayNear : Type 0
AssertsStayNear = IsKept asserts_are_near

abbrev pub RegistersStayNear : Type 0
RegistersStayNear = IsKept registers_are_near
