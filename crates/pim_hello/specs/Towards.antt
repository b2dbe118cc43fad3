-- The Join timers towards a neighbour.
use Rattle.std.{specs.Prelude.{Bool, Some}}
use Rattle.pim_types.{specs.declared.{fact.Key.Key, path.Hop.Hop}}
use Rattle.pim_model.{specs.{Hellos.upstream_of, State.State, Tables.same_hop}}

-- the timer's upstream neighbour is this one
abbrev pub is_towards : State → Hop → Key → Bool
is_towards s neighbour k = same_hop (upstream_of s k) (Some neighbour)
