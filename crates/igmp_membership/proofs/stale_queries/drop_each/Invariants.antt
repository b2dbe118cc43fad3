use Rattle.std.{proofs.Common.{◌≡◌, drop, fold}}
use Rattle.pim_model.{specs.Tables.drop_at}
use Rattle.igmp_membership.proofs.stale_queries.drop_each.Given as goal

abbrev pub invariant-loop-key : goal.invariant-loop-key
invariant-loop-key l = fold drop_at l.sendings (drop l.key-index l.keys) ≡ fold drop_at l.fn.sendings l.keys
