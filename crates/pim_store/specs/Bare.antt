-- Sets of interfaces without the register tunnel.
use Rattle.std.{specs.Prelude.{false, ◌≡◌}}
use Rattle.pim_store.{specs.declared.marks.Marks.Marks}

-- no set has the register tunnel
pub record IsWithoutTunnel (m : Marks) : Type 0 where
  pub joined : (m.joined).tunnel ≡ false
  pub branched : (m.branched).tunnel ≡ false
  pub pruned : (m.pruned).tunnel ≡ false
  pub lost : (m.lost).tunnel ≡ false
  pub won : (m.won).tunnel ≡ false
