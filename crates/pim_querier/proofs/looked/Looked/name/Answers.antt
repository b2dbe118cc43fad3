use Rattle.std.{proofs.Common.{List, subst, sym}}
use Rattle.pim_ip.{specs.declared.addr.Addr.Addr}
use Rattle.pim_types.{specs.declared.fact.Key.Key}
use Rattle.pim_querier.{specs.Looking.ListsLate, proofs.{Looking.nothing_listed, Starting.then_ok}}
use Rattle.pim_querier.proofs.looked.Looked.name.Goals as goal

pub returns-then-is_empty : goal.returns-then-is_empty
returns-then-is_empty c = λ before after f grows.
    subst (λ (gs : List Addr). ListsLate c.args.place.iface.number c.args.self.now.end gs c.args.self.now.late.items after)
    (sym (c.is_empty.ensures.0 c.if-is_empty.true))
    (nothing_listed c.args.place.iface.number c.args.self.now.end c.args.self.now.late.items after)

pub returns : goal.returns
returns c =
    then_ok c.put_keys.result
    (λ e before after f grows.
    subst (λ (ks : List Key). ListsLate c.args.place.iface.number c.args.self.now.end c.args.self.now.groups.items ks after)
    (sym e) (grows c.args.self.now.end c.args.self.now.groups.items c.args.self.now.late.items f))
    c.put_keys.ensures
