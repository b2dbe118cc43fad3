use Rattle.std.{proofs.Common.{None, ap, not, sym, ◌∙◌}}
use Rattle.pim_types.{specs.Keys.iface_in}
use Rattle.pim_model.{specs.{Neighbours.is_dr_among, Tables.{rows_on, set_row}}}
use Rattle.pim_hello.{proofs.Ranked.dr_with}
use Rattle.pim_hello.proofs.election.is_dr_if_gone.Goals as goal

pub returns : goal.returns
returns c =
    let k = c.args.key in
    let t = c.args.world.now.neighbours in
    let own = c.own-own.result in
    ap not c.some_other_better.ensures
    ∙ sym (dr_with k t (rw c.neighbours.ensures at c.len.ensures.ascending) own.priority own.address.bits None
    (not c.some_other_unranked-by_priority.result) (ap not c.some_other_unranked-by_priority.ensures))
    ∙ (λ j. is_dr_among (c.own-own.ensures.priority j) (c.own-own.ensures.address j)
    (rows_on (iface_in k) (set_row t k None)))
