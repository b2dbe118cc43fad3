-- Time that passes in two steps, in the first of which no timer expires, and a plane that advances at once after its
-- notes.
use Rattle.std.{specs.Prelude.{List, Ok, [], true, ℕ, ◌∷◌, ◌≡◌, ◌≤◌}}
use Rattle.pim_types.{specs.declared.{config.Config.Config, event.{Event.Event, EventKind.EventKind}}}
use Rattle.law_settled.{specs.Laws.ends_after}
use Rattle.pim_model.{specs.{Judging.last_moment, Limits.config_test, State.{State, opening}, Step.{state_after, step}}}
use Rattle.law_events.{specs.Rest.IsAtRest}
use Rattle.law_plane.{specs.{Split.{Split, advance_to, split_ran, whole}, ToldLaws.no_plane_rows}}
use Rattle.law_states.{specs.Kept.{Way, kept_up, told_notes}}

abbrev pub AdvanceAtOnce : Type 0
AdvanceAtOnce = (s : State) (w n m : ℕ) → IsAtRest s → s.present ≤ n → n ≤ m → m ≤ last_moment → ends_after n s ≡ true
    → step (state_after s (advance_to n ∷ [])) (record { draw = w; kind = EventKind.Advance m })
    ≡ step s (record { draw = w; kind = EventKind.Advance m })

-- A plane that has reported its notes may advance to the present time at once, past the timestamps at which timers
-- expire.
abbrev pub KeptAtOnce : Type 0
KeptAtOnce = (c : Config) (events : List Event) (w : Way) (v m : ℕ) → config_test c ≡ Ok tt
    → (let x : Split = (split_ran (whole (opening c) no_plane_rows) events).1 in
    x.now ≤ m → m ≤ last_moment
    → step (kept_up w x) (record { draw = v; kind = EventKind.Advance m })
    ≡ step (told_notes w x.core x.owed) (record { draw = v; kind = EventKind.Advance m }))
