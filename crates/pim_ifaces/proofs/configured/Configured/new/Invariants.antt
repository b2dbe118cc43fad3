use Rattle.std.{proofs.Common.{◌≡◌, ◌++◌, drop}}
use Rattle.pim_ifaces.proofs.configured.Configured.new.Given as goal

abbrev pub invariant-loop-interface : goal.invariant-loop-interface
invariant-loop-interface l = l.interfaces.items ++ drop l.interface-index l.configured ≡ l.configured
