-- What the orders of a map of places are.
use Rattle.std.{specs.Prelude.{length, ℕ, ◌≡◌}}
use Rattle.law_states.{specs.Placing.{Places, kept_places, new_order, old_order, to_order}}
use Rattle.pim_worlds.{specs.declared.orders.Orders.Orders}

-- The orders are those of the map, where the other configuration has so many interfaces.
pub record AreOrders (m : Places) (count : ℕ) (orders : Orders) : Type 0 where
  pub old : orders.old.items ≡ old_order m
  pub to : orders.to.items ≡ to_order m
  pub new : orders.new.items ≡ new_order m count
  pub kept : orders.kept ≡ length (kept_places m)
