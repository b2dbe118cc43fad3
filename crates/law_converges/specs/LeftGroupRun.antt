-- A group that its host leaves without a word, computed by the kernel.
use Rattle.std.{specs.Prelude.{List, [], false, true, ◌∷◌, ◌≡◌}}
use Rattle.pim_types.{specs.declared.event.Event.Event}
use Rattle.pim_model.{specs.{Receivers.local_receiver_star, State.{State, opening}, Step.state_after}}
use Rattle.pim_runs.{specs.{ServedChain.{asked_group, first, report}, Words.{advance, up}}}

-- a host of the first router of the chain asks, and is silent from then on
abbrev pub asking_events : List Event
asking_events = up 7 0 ∷ report ∷ []

abbrev pub asked : State
asked = state_after (opening first) asking_events

-- The group is wanted until [Group Membership Interval], 2 x 125 s + 10 s, is over.
abbrev pub SilentGroupEnds : Type 0
SilentGroupEnds =
    (local_receiver_star (state_after asked (advance 259999 ∷ [])) asked_group 0 ≡ true)
    × (local_receiver_star (state_after asked (advance 260000 ∷ [])) asked_group 0 ≡ false)
