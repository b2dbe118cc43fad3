use Rattle.std.{proofs.Common.ap}
use Rattle.pim_model.{specs.{Neighbours.{all_have_priority, is_dr, is_dr_among, neighbours_on}, State.{my_address, my_priority}}}
use Rattle.pim_ip.{specs.Addr.addr}
use Rattle.pim_shown.{specs.{Links.{dr, dr_among}, declared.link.Candidate.Candidate}, proofs.Elected.{found, not_false, not_true, stays}}
use Rattle.pim_shown.proofs.laws.the_dr_is_elected.Goals as goal

pub returns-clause-own : goal.returns-clause-own
unfolding is_dr is_dr_among dr dr_among
returns-clause-own c s i is =
    ap (λ (d : Candidate). d.address.bits)
    (stays (all_have_priority (neighbours_on s i)) (record { priority = my_priority s i; address = addr (my_address s i) })
    (neighbours_on s i) (not_true _ is))

pub returns-clause-other : goal.returns-clause-other
unfolding is_dr is_dr_among dr dr_among
returns-clause-other c s i is =
    found (all_have_priority (neighbours_on s i)) (record { priority = my_priority s i; address = addr (my_address s i) })
    (neighbours_on s i) (not_false _ is)
