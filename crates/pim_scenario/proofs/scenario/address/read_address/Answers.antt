-- A text that writes no address is not what is printed of one.
use Rattle.std.{proofs.Common.{arith, refl, ◌∷◌, []}, specs.Int.byte_at}
use Rattle.pim_scenario.proofs.scenario.address.read_address.Goals as goal

pub returns-in-Err : goal.returns-in-Err
returns-in-Err c a printed =
    c.in-Err.ensures.value
    (record { octets = byte_at 3 a.bits ∷ byte_at 2 a.bits ∷ byte_at 1 a.bits ∷ byte_at 0 a.bits ∷ [] })
    (record {
      a = byte_at 3 a.bits;
      b = byte_at 2 a.bits;
      c = byte_at 1 a.bits;
      d = byte_at 0 a.bits;
      fit = (omega arith, omega arith, omega arith, omega arith);
      value = refl;
      spelled = printed.1;
    })
