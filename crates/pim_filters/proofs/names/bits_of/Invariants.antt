use Rattle.std.{proofs.Common.{◌≡◌, take}}
use Rattle.pim_filters.{specs.Members.bits_of}
use Rattle.pim_filters.proofs.names.bits_of.Given as goal

abbrev pub invariant-loop-address : goal.invariant-loop-address
invariant-loop-address l = l.bits.items ≡ bits_of (take l.address-index l.addresses)
