use Rattle.std.{proofs.Common.{◌≡◌, ◌++◌, drop, filter, map}}
use Rattle.pim_candidate.{specs.RpSet.{gone_from, is_lost}}
use Rattle.pim_candidate.proofs.rp_set.add_gone.Given as goal

abbrev pub invariant-loop-one : goal.invariant-loop-one
invariant-loop-one l =
    l.gone.items ++ map (gone_from l.now) (filter (is_lost l.held) (drop l.one-index l.firsts))
    ≡ l.fn.gone.items ++ map (gone_from l.now) (filter (is_lost l.held) l.firsts)
