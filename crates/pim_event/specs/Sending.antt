-- What a change leaves to be sent.
use Rattle.std.{specs.Prelude.{length, ◌≡◌, ◌≤◌}}
use Rattle.pim_data.{specs.declared.leaving.Leaving.Leaving}
use Rattle.pim_state.{specs.Turns.{Taking, saying}}
use Rattle.pim_model.{specs.{State.State, Step.Change}}

-- The state, the messages and the packets are those of a change.
pub record Sends (leaving : Leaving) (state : State) (before after : Taking) (c : Change) : Type 0 where
  pub state_is : state ≡ c.state
  pub messages : after ≡ saying before c.messages
  pub copies : leaving.copies.items ≡ c.copies
  pub registered : leaving.registered.items ≡ c.registered
  pub limit : length leaving.copies.items ≤ 120
