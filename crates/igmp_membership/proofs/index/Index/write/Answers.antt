use Rattle.pim_tables.{proofs.Lookups.none_there}
use Rattle.igmp_membership.{proofs.Writes.{drop_writes, writes_after}}
use Rattle.igmp_membership.proofs.index.Index.write.Goals as goal

pub returns-then-is_empty-clause-ok : goal.returns-then-is_empty-clause-ok
returns-then-is_empty-clause-ok c = rw (← c.self.view_is)
    (drop_writes _ _ c.args.listed _ c.remove.ensures (c.is_empty.ensures c.if-is_empty.true))

pub returns-clause-ok : goal.returns-clause-ok
returns-clause-ok c = rw (← c.self.view_is) (writes_after _ _ c.args.listed _ _ c.put.ensures.ok)

pub returns-clause-absent : goal.returns-clause-absent
returns-clause-absent c = rw (← c.self.view_is) (none_there _ _ _ c.put.ensures.overwrites)
