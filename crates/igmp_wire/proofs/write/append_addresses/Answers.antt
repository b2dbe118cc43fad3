use Rattle.std.{proofs.{Common.{◌<◌, ◌^◌, get_or, arith}, lemmas.Grind.common_steps}}
use Rattle.igmp_wire.{proofs.WritingLaws.All_more}
use Rattle.igmp_wire.proofs.write.append_addresses.Goals as goal

pub loop-address-preserved : goal.loop-address-preserved
loop-address-preserved c =
    let i = c.loop-address.address-index in
    let fits : (get_or c.args.addresses.now i (record { bits = 0 })).bits < 2 ^ 32 = omega arith in
    record {
      text = grind (arith, common_steps);
      in_range = All_more (λ bits. bits < 2 ^ 32) (λ address. address.bits) c.args.addresses.now i (record { bits = 0 }) c.loop-address-test.true c.loop-address.invariant.in_range fits;
    }
