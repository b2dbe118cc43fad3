-- What holds, beside rest, of every state that events, reloads and the reports of a plane lead to: timers end within their
-- periods, the router won its asserts by the address that it has, neighbours stand under keys of their kind, and the
-- record of a source beside that of its group.
use Rattle.std.{specs.{List.list_all, Prelude.{Bool, List, [], length, true, ℕ, ◌&&◌, ◌∷◌, ◌≡◌}}}
use Rattle.pim_types.{specs.declared.{config.Config.Config, event.Event.Event}}
use Rattle.pim_model.{specs.{State.{State, iface_count, opening}, Step.step}}
use Rattle.law_events.{specs.Rest.IsAtRest}
use Rattle.law_states.{specs.{ReloadLaws.next_query_is_near, Reloading.reload, Placing.{Places, are_places, reload_by}, History.{Given, IsLedTo}, Ends.{asserts_are_near, hellos_are_near, registers_are_near}, Kinds.{neighbours_are_keyed, sources_are_grouped}, Own.won_are_own}}
use Rattle.law_plane.{specs.Keeping.keep}

-- the tests that every event, reload and report keeps by itself
abbrev pub kept_tests : List (State → Bool)
kept_tests =
    hellos_are_near
    ∷ registers_are_near
    ∷ asserts_are_near
    ∷ won_are_own
    ∷ neighbours_are_keyed
    ∷ sources_are_grouped
    ∷ []

unfoldable pub is_near : State → Bool
is_near s = next_query_is_near s && list_all (λ (test : State → Bool). test s) kept_tests

-- It holds at the opening, and every event, every reload and what a plane reports by `keep` keep it.
pub record NearStays : Type 0 where
  pub opening : (c : Config) → is_near (opening c) ≡ true
  pub step : (s : State) (e : Event) → IsAtRest s → is_near s ≡ true → is_near (step s e).state ≡ true
  pub reload : (s : State) (c : Config) (w : ℕ) → is_near s ≡ true → is_near (reload s c w).0 ≡ true
  pub placed : (s : State) (m : Places) (c : Config) (w : ℕ) → are_places (iface_count s) (length c.interfaces) m ≡ true
      → is_near s ≡ true → is_near (reload_by s m c w).0 ≡ true
  pub keep : (s : State) (g src m : ℕ) → is_near s ≡ true → is_near (keep s g src m) ≡ true

-- It is so after any events, reloads and reports.
abbrev pub LedStatesAreNear : Type 0
LedStatesAreNear = (c : Config) (before : List Given) (s : State) → IsLedTo c before s → is_near s ≡ true
