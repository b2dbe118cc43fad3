-- A packet is forwarded alike by a row of the cache and by the answers of its source.
use Rattle.std.{specs.Prelude.{nat_lt, true, ℕ, ◌≡◌}}
use Rattle.pim_ifset.{specs.Members.has}
use Rattle.pim_mfc.{specs.declared.forward.Forward.Forward}
use Rattle.pim_model.{specs.{Cache.Plain, Limits.most_ifaces}}

-- KAT(S,G) is set in both or in neither, and copies leave on the same configurable interfaces.
pub record Forwards (forward : Forward) (how : Plain) : Type 0 where
  pub keeps : forward.sets_keepalive ≡ how.keeps
  pub list : (i : ℕ) → nat_lt i most_ifaces ≡ true → has forward.olist i ≡ how.list i
