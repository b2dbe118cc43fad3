use Rattle.std.{proofs.Common.{◌≡◌, ◌<◌, ◌^◌, ◌++◌, take, flat_map, All}}
use Rattle.byteorder.{specs.Endian.big_bytes}
use Rattle.igmp_wire.{specs.Written.bits_of}
use Rattle.igmp_wire.proofs.write.append_addresses.Given as goal

-- the addresses so far stand behind what was there
abbrev pub invariant-loop-address : goal.invariant-loop-address
invariant-loop-address l = record {
  text : l.out.items ≡ l.initial.out.items ++ flat_map (big_bytes 4) (bits_of (take l.address-index l.addresses));
  in_range : All (λ bits. bits < 2 ^ 32) (bits_of (take l.address-index l.addresses));
}
