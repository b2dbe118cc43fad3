use Rattle.std.{proofs.{Common.{◌≡◌, ◌*◌, ℕ, take, ap, arith}, lemmas.Grind.common_steps}}
use Rattle.pim_ip.{specs.Ipv4.header_length_of, proofs.ReadingLemmas.{packet_found, IsMeasured}}
use Rattle.pim_ip.proofs.ipv4.read_ipv4.Goals as goal

pub returns : goal.returns
returns c =
    let measured : IsMeasured c.args.bytes.now = grind (arith, common_steps) in
    let length_is : 4 * c.from-header_length.result ≡ header_length_of c.args.bytes.now = grind (arith, common_steps) in
    packet_found c.args.bytes.now measured (grind (arith, common_steps)) (grind (arith, common_steps)) (grind (arith, common_steps)) _ _ (ap (λ (n : ℕ). take n c.args.bytes.now) length_is) (grind (arith, common_steps))
