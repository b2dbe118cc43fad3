-- What leaves by a call of a session is asked for, whatever stands before its router, and what led to its state goes on.
use Rattle.std.{specs.Prelude.{List, Result, ℕ, ◌≡◌}}
use Rattle.pim_ip.{specs.declared.refusal.Refusal.Refusal}
use Rattle.pim_types.{specs.declared.{config.Config.Config, event.Event.Event, outcome.{Emission.Emission, Verdict.Verdict}}}
use Rattle.pim_model.{specs.State.State}
use Rattle.igmp_older_saved.{specs.Text.{Held, held_text, FitsHeld}}
use Rattle.law_states.{specs.History.{Given, IsLedTo}}
use Rattle.pim_router.{specs.Asked.SentIsAsked}

-- What left is what the router sent, as it leaves by the function, and each copy among it has its cause in what led to the
-- state.
pub record LeftIsAsked (leaves : List Emission → List Emission) (s : State) (e : Event) (answer : Result Verdict Refusal)
    (left : List Emission) (copies : ℕ) : Type 0 where
  pub sent : List Emission
  pub is : left ≡ leaves sent
  pub asked : SentIsAsked s e answer sent copies

-- Where the bytes are those of a saved state, with or without rows of older hosts, whatever led to that state led to this
-- one.
abbrev pub GoesOnFrom : List ℕ → State → Type 0
GoesOnFrom bytes t = (c : Config) (before : List Given) (h : Held) → IsLedTo c before h.state → FitsHeld h → bytes ≡ held_text h
    → IsLedTo c before t
