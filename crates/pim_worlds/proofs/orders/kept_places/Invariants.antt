use Rattle.std.{proofs.Common.{◌≡◌, ◌++◌, drop}}
use Rattle.law_states.{specs.Placing.kept_places}
use Rattle.pim_worlds.proofs.orders.kept_places.Given as goal

abbrev pub invariant-loop-place : goal.invariant-loop-place
invariant-loop-place l = l.kept.items ++ kept_places (drop l.place-index l.places) ≡ kept_places l.places
