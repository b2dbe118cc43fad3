use Rattle.pim_fanout.{proofs.Grouping.sorted_alike}
use Rattle.pim_fanout.proofs.before.grouped.Goals as goal

pub returns-in_ok-sorted-in-Keys-clause-alike : goal.returns-in_ok-sorted-in-Keys-clause-alike
returns-in_ok-sorted-in-Keys-clause-alike c =
    sorted_alike c.args.touched.now c.in-Keys.keys c.as_slice.result.now c.in_ok-sorted-in-Keys.sorted.items c.from_vec.result
    c.in-Keys.is c.as_slice.ensures c.in_ok-sorted-in-Keys.ensures.same c.from_vec.ensures
