use Rattle.std.{proofs.Common.{List, subst, sym}}
use Rattle.pim_ip.{specs.declared.addr.Addr.Addr}
use Rattle.pim_querier.{specs.Looking.ListsLate, proofs.Looking.nothing_listed}
use Rattle.pim_querier.proofs.looked.Looked.start.Goals as goal

pub returns-then-not-is_empty : goal.returns-then-not-is_empty
returns-then-not-is_empty c = λ i rows f. f

pub returns : goal.returns
returns c = λ i rows f.
    subst (λ (gs : List Addr). ListsLate i c.args.moment gs c.args.self.now.late.items rows)
    (sym (c.is_empty.ensures.0 c.if-not-is_empty.false))
    (nothing_listed i c.args.moment c.args.self.now.late.items rows)
