use Rattle.std.{proofs.Common.{◌≡◌, drop}}
use Rattle.pim_saved.{specs.Crc.after_bytes}
use Rattle.pim_saver.proofs.crc.with_bytes.Given as goal

abbrev pub invariant-loop-byte : goal.invariant-loop-byte
invariant-loop-byte l = after_bytes l.register (drop l.byte-index l.bytes) ≡ after_bytes l.fn.register l.bytes
