use Rattle.std.{proofs.Common.{List, subst, sym}, specs.List.Sorted.IsStrictlySortedBy}
use Rattle.pim_types.{specs.declared.fact.Key.Key}
use Rattle.pim_model.{specs.Tables.keys_in}
use Rattle.law_settled.{specs.Ready.Rises}
use Rattle.igmp_older_saved.{specs.declared.host.HostRow.HostRow}
use Rattle.pim_session.proofs.saved.hosts_of.Goals as goal

pub returns-in-None-clause-rise : goal.returns-in-None-clause-rise
unfolding IsStrictlySortedBy keys_in
returns-in-None-clause-rise c = subst (λ (rows : List (Key × HostRow)). Rises rows) (sym c.new.ensures.items) tt
