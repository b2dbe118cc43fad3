use Rattle.std.{proofs.Common.◌∙◌}
use Rattle.pim_ifset.{proofs.{Ascending.{length_interfaces_le, interfaces_each}, Packing.{bare_lt, interfaces_bare}}}
use Rattle.pim_ifset.proofs.set.IfSet.iter.Goals as goal

pub over-requires : goal.over-requires
over-requires c = bare_lt c.self.inside.mask c.self.invariant

pub returns-clause-members : goal.returns-clause-members
returns-clause-members c = rw (← c.self.view_is) (c.over.ensures ∙ interfaces_bare c.self.inside.mask)

pub returns-clause-limit : goal.returns-clause-limit
returns-clause-limit c = rw c.over.ensures (length_interfaces_le _ _ (bare_lt c.self.inside.mask c.self.invariant))

pub returns-clause-each : goal.returns-clause-each
returns-clause-each c = rw (returns-clause-members c) (interfaces_each c.args.self)
