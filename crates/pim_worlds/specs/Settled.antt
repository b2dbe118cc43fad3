-- Whether a state whose keys rise is settled, as a test.
use Rattle.std.{specs.Prelude.{Bool, true, ◌&&◌, ◌≡◌}}
use Rattle.law_settled.{specs.{Laws.ends_after, Ready.{IsOrdered, IsSettled}}}
use Rattle.pim_model.{specs.State.State}
use Rattle.law_states.{specs.Resting.{all_pass, firing_tests, tidy_tests}}

-- the test that a read state is settled
unfoldable pub is_settled : State → Bool
is_settled s = all_pass (firing_tests s) && (ends_after s.present s && all_pass (tidy_tests s))

-- the test of a read state passes exactly where the state is settled
abbrev pub SettledIsDecided : Type 0
SettledIsDecided = (s : State) → IsOrdered s → (is_settled s ≡ true → IsSettled s) × (IsSettled s → is_settled s ≡ true)
