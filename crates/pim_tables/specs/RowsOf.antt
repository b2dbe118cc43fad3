-- The rows of an interface, or of a group on it.
use Rattle.std.{specs.{Borrow.Bor, List.{AllByRecursion, Sorted.IsStrictlySortedBy}, Ordering.is_le, Prelude.{Bool, None, Option, Some, [], true, unwrap_or, ℕ, ◌&&◌, ◌≡◌, ◌∷◌}}}
use Rattle.pim_ip.{specs.{Addr.addr, declared.addr.Addr.Addr}}
use Rattle.pim_types.{specs.{declared.fact.Key.Key, Keys.{is_of_group, is_on, key_cmp, star_key}}}
use Rattle.pim_model.{specs.Tables.{Table, keys_in}}

-- The key is on the interface, and of the group if there is one.
abbrev pub is_of : ℕ → Option Addr → Key → Bool
is_of i None k = is_on i k
is_of i (Some g) k = is_on i k && is_of_group g.bits k

-- the least key of the interface, or of the group on it
abbrev pub first_of : ℕ → Option Addr → Key
first_of i group = star_key i (unwrap_or group (addr 0)).bits

-- a row behind the references that a walk gives
abbrev pub row_seen : {R : Type 0} → Bor Key × Bor R → Key × R
row_seen e = (e.0.now, e.1.now)

-- the keys rise, and none is below the first
pub record RiseFrom {R : Type 0} (i : ℕ) (group : Option Addr) (rows : Table R) : Type 0 where
  pub rise : IsStrictlySortedBy key_cmp (keys_in rows)
  pub from : AllByRecursion (λ (e : Key × R). is_le (key_cmp (first_of i group) e.0) ≡ true) rows

-- the key of the first row
abbrev pub first_key : {R : Type 0} → Table R → Option Key
first_key [] = None
first_key (e ∷ t) = Some e.0
