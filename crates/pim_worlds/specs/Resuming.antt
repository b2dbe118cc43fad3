-- Which states a router goes on from, and which bytes are of one.
use Rattle.std.{specs.Prelude.{Bool, Err, List, Ok, Result, if◌then◌else◌, is_ok, true, ℕ, ◌&&◌, ◌≡◌}}
use Rattle.pim_saved.{specs.{declared.refusal.SavedRefusal.SavedRefusal, Fits.FitsState, Reading.reading, Text.text}}
use Rattle.law_events.{specs.Rest.IsAtRest}
use Rattle.pim_model.{specs.{Limits.config_test, State.State}}
use Rattle.law_settled.{specs.Ready.IsOrdered}
use Rattle.pim_worlds.{specs.{Rows.can_hold, Settled.is_settled, declared.refusal.RestoreRefusal.RestoreRefusal}}
use Rattle.law_states.{specs.{Reload.config_of, Resting.{all_pass, quiet_tests}, NearStates.is_near}}
use Rattle.pim_state.{specs.Configurations.settings_test}

-- A router goes on from this state: each fact is under a key of its kind, the configuration is accepted, the state is at
-- rest, and `is_near` holds, as in each state that events, reloads and reports of a plane lead to (`NearStays`).
pub record IsResumable (s : State) : Type 0 where
  pub held : can_hold s ≡ true
  pub accepted : config_test (config_of s) ≡ Ok tt
  pub rest : IsAtRest s
  pub near : is_near s ≡ true

-- the configuration is accepted, but for its routes and RP ranges
abbrev pub are_settings_accepted : State → Bool
are_settings_accepted s = is_ok (settings_test (config_of s))

-- the test that nothing is left to be done in a state
abbrev pub is_quiet : State → Bool
is_quiet s = all_pass (quiet_tests s)

-- the tests of a state whose keys rise, in their order
unfoldable pub resume_test : State → Result (Unit {0}) RestoreRefusal
resume_test s =
    if can_hold s && are_settings_accepted s
    then (if is_settled s
    then (if is_quiet s then (if is_near s then Ok tt else Err RestoreRefusal.NotNear) else Err RestoreRefusal.NotQuiet)
    else Err RestoreRefusal.NotSettled)
    else Err RestoreRefusal.NotHeld

-- the test of what is read of saved bytes
abbrev pub read_test : Result State SavedRefusal → Result (Unit {0}) RestoreRefusal
read_test (Ok s) = resume_test s
read_test (Err refusal) = Err (RestoreRefusal.Bytes refusal)

-- the tests of bytes
abbrev pub restore_test : List ℕ → Result (Unit {0}) RestoreRefusal
restore_test bytes = read_test (reading bytes)

-- the tests pass exactly where a router goes on from the state
abbrev pub ResumableIsDecided : Type 0
ResumableIsDecided = (s : State) → IsOrdered s → (resume_test s ≡ Ok tt → IsResumable s) × (IsResumable s → resume_test s ≡ Ok tt)

-- what a router saves, which fits and is a state from which one goes on, is restored
abbrev pub SavedIsResumed : Type 0
SavedIsResumed = (s : State) → FitsState s → IsResumable s → restore_test (text s) ≡ Ok tt
