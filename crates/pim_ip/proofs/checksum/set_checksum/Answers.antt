use Rattle.std.{proofs.{Common.{◌≡◌, ◌+◌, ◌*◌, ◌-◌, ◌/◌, ℕ, length, take, drop, arith}, lemmas.List.length-take-le}}
use Rattle.pim_ip.{proofs.{ChecksumLemmas.sum16-with_checksum, WritingLemmas.put_mid-checksum}}
use Rattle.pim_ip.proofs.checksum.set_checksum.Goals as goal

pub returns : goal.returns
returns c =
    let place : ℕ = c.args.place in
    let bytes = c.args.bytes.now in
    let two : place + 2 - place ≡ 2 = omega arith in
    let zeros = rw two at c.write_u16.ensures in
    let checksum = rw two at c.sum16-checksum.ensures in
    let sum = rw two at c.write_u16-2.ensures in
    let set = put_mid-checksum bytes c.write_u16.new.buf c.write_u16-2.new.buf place c.sum16-checksum.result c.requires zeros checksum sum in
    record {
      set = rw two set;
      right = λ even.
          let half : length (take place bytes) ≡ 2 * (place / 2) = omega (arith, length-take-le place bytes (omega arith)) in
          rw (two, set) (sum16-with_checksum (place / 2) (take place bytes) (drop (place + 2) bytes) half);
    }
