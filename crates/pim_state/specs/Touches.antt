-- Which keys a change may concern.
use Rattle.std.{specs.Prelude.List}
use Rattle.pim_types.{specs.declared.fact.Key.Key}
use Rattle.pim_model.{specs.{State.State, Upstream.fact_keys}}
use Rattle.pim_state.{specs.declared.touched.Touched.Touched}

-- The keys that a change may concern; where it may concern all, the keys of all facts.
abbrev pub concerned_keys : State → Touched → List Key
concerned_keys s Touched.All = fact_keys s
concerned_keys s (Touched.Keys keys) = keys
