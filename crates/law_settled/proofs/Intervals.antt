-- The intervals of a querier in force aren't 0.
use Rattle.std.{proofs.{Common.{◌≡◌, ℕ, ◌<◌, ◌≤◌, ◌*◌, nat_lt, true, ◌&&◌, Option, Some, None, refl, arith, ltb-true}, lemmas.Nat.mul-le}, specs.{Cmp.{first_so, second_so}, Option.option_map_or}}
use Rattle.pim_types.{specs.{declared.{config.Settings.Settings, fact.QuerierRow.QuerierRow}, Keys.iface_key}}
use Rattle.pim_model.{specs.{Querier.{group_membership_interval, last_member_query_interval, last_member_query_time, other_querier_interval, query_interval, robustness, startup_query_interval}, State.State, Tables.row_at}}

-- no interval and no robustness is 0
pub record IsFirm (c : Settings) : Type 0 where
  pub query_interval : nat_lt 0 c.query_interval ≡ true
  pub last_member_query_interval : nat_lt 0 c.last_member_query_interval ≡ true
  pub robustness : nat_lt 0 c.robustness ≡ true

-- no interval and no robustness of the settings or of an interface's querier is 0
pub record IsInForce (s : State) (i : ℕ) : Type 0 where
  pub firm : IsFirm s.settings
  pub row : (r : QuerierRow) → row_at s.queriers (iface_key i) ≡ Some r
      → (nat_lt 0 r.robustness && nat_lt 0 r.query_interval) ≡ true

module _ (s : State) (i : ℕ) (force : IsInForce s i) where
  its_robustness : (o : Option QuerierRow) → ((r : QuerierRow) → o ≡ Some r → nat_lt 0 r.robustness ≡ true)
      → 1 ≤ option_map_or (λ (q : QuerierRow). q.robustness) o s.settings.robustness
  its_robustness None good = grind (arith, ltb-true)
  its_robustness (Some r) good = let some : 0 < r.robustness = ltb-true 0 r.robustness (good r refl) in omega arith

  some_robustness : 1 ≤ robustness s i
  unfolding robustness
  some_robustness =
      its_robustness (row_at s.queriers (iface_key i))
      (λ r e. first_so (nat_lt 0 r.robustness) (nat_lt 0 r.query_interval) (force.row r e))

  its_interval : (o : Option QuerierRow) → ((r : QuerierRow) → o ≡ Some r → nat_lt 0 r.query_interval ≡ true)
      → 1000 ≤ 1000 * option_map_or (λ (q : QuerierRow). q.query_interval) o s.settings.query_interval
  its_interval None good = grind (arith, ltb-true)
  its_interval (Some r) good =
      let some : 0 < r.query_interval = ltb-true 0 r.query_interval (good r refl) in omega arith

  pub some_interval : 1000 ≤ query_interval s i
  unfolding query_interval
  some_interval =
      its_interval (row_at s.queriers (iface_key i))
      (λ r e. second_so (nat_lt 0 r.robustness) (nat_lt 0 r.query_interval) (force.row r e))

  pub some_startup : 1 ≤ startup_query_interval s i
  unfolding startup_query_interval
  some_startup = omega (arith, some_interval)

  some_product : 1 ≤ robustness s i * query_interval s i
  some_product = grind (arith, some_interval, mul-le, some_robustness)

  pub some_membership : 1 ≤ group_membership_interval s i
  unfolding group_membership_interval
  some_membership = let some : 1 ≤ robustness s i * query_interval s i = some_product in omega arith

  pub some_other : 1 ≤ other_querier_interval s i
  unfolding other_querier_interval
  some_other = let some : 1 ≤ robustness s i * query_interval s i = some_product in omega arith

  pub some_last_member : 1 ≤ last_member_query_interval s
  some_last_member = grind arith

  pub some_query_time : 1 ≤ last_member_query_time s i
  unfolding last_member_query_time
  some_query_time = mul-le 1 1 (last_member_query_interval s) (robustness s i) some_last_member some_robustness
