-- Which registers a Register-Stop changes.
use Rattle.std.{specs.Prelude.{Bool, List, false, filter, if◌then◌else◌, length, nat_lt, not, true, ℕ, ◌&&◌, ◌==◌, [], ◌∷◌}}
use Rattle.pim_types.{specs.{declared.fact.{Key.Key, RegisterState.RegisterState}, Keys.{is_of_group, source_key}}}
use Rattle.pim_model.{specs.{State.State, Tables.keys_in}}

-- A Register-Stop changes a register in this state: not one in Prune.
abbrev pub is_stoppable : RegisterState → Bool
is_stoppable (RegisterState.Prune end) = false
is_stoppable _ = true

-- The keys of those of the group's registers that a Register-Stop changes.
unfoldable pub stoppable_keys : State → ℕ → List Key
stoppable_keys s g =
    keys_in (filter (λ e. is_stoppable (e.1).state) (filter (λ e. is_of_group g e.0) s.registers))

-- The keys that a Register-Stop touches: the source that it names. One of 0.0.0.0, which is for all sources of the
-- group, touches those of which it changes the register, or all where these are more than 256.
abbrev pub keys_of_stop : State → ℕ → ℕ → List Key
keys_of_stop s g src =
    if (src == 0) && not (nat_lt 256 (length (stoppable_keys s g))) then stoppable_keys s g else source_key 0 g src ∷ []
