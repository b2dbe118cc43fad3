-- A change, or an event, in which no interface row and no neighbour row differs in between.
use Rattle.std.{specs.{List.list_all, Prelude.{Bool, [], ℕ, ◌∷◌}}}
use Rattle.pim_model.{specs.{declared.accepted.Accepted.Accepted, Reach.{keeps_neighbours, passes, told_all}, State.State, Step.change}}

-- No interface row and no neighbour row differs between the opening and any state that the change passes through.
unfoldable pub is_calm : State → State → Bool
is_calm o changed = list_all (keeps_neighbours o) (passes o changed)

-- An accepted event in which no such row differs; for an Advance in the expiry of each of its timers.
unfoldable pub is_calm_event : State → ℕ → Accepted → Bool
is_calm_event s w (Accepted.Advance moment) =
    list_all (λ b. b) (told_all (λ o changed. is_calm o changed ∷ []) w moment s).1
is_calm_event s w a = is_calm s (change s w a).state
