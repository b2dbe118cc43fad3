-- What an event may cost: by how much the meter rises, in trie nodes, and the rows of the forwarding cache that it
-- touches.
use Rattle.std.{specs.Prelude.{List, [], length, true, ℕ, ◌*◌, ◌∷◌, ◌≡◌, ◌≤◌}}
use Rattle.pim_types.{specs.declared.event.Event.Event}
use Rattle.pim_model.{specs.{Plain.IsPlainEvent, Reach.{event_reach, keeps_neighbours}, State.State, Step.step}}

-- The meter rises by at least one node, and by at most 66: 33 for the group and 33 for the source.
pub record IsWithinPath (probes : ℕ) : Type 0 where
  pub some : 1 ≤ probes
  pub few : probes ≤ 66

pub record IsCheap (s : State) (e : Event) (probes touched : ℕ) : Type 0 where
  -- of a plain data event
  pub plain : IsPlainEvent s e → IsWithinPath probes
  -- of an event after which each interface row and each neighbour row is the same, but for when it expires
  pub calm : keeps_neighbours s (step s e).state ≡ true → touched ≤ 3 * length (event_reach s e)

-- The last event of a list is cheap, as `IsCheap` says.
abbrev pub IsLastCheap : State → List Event → ℕ → ℕ → Type 0
IsLastCheap s [] probes touched = Unit {0}
IsLastCheap s (e ∷ []) probes touched = IsCheap s e probes touched
IsLastCheap s (e ∷ es) probes touched = IsLastCheap (step s e).state es probes touched
