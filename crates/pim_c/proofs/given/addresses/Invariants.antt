-- Those that were read so far.
use Rattle.std.{proofs.Common.{◌≡◌, map, take}}
use Rattle.pim_ip.{specs.Addr.addr}
use Rattle.pim_c.proofs.given.addresses.Given as goal

abbrev pub invariant-loop-one : goal.invariant-loop-one
invariant-loop-one l = l.all ≡ map addr (take l.one-index l.given)
