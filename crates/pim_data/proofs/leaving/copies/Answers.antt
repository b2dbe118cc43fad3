use Rattle.std.{proofs.Common.{ap, nat_lt, sym, ◌&&◌, ◌∙◌}}
use Rattle.pim_data.{proofs.Few.{all_copied, copies_few}}
use Rattle.pim_data.proofs.leaving.copies.Goals as goal

pub returns-clause-copies : goal.returns-clause-copies
returns-clause-copies c =
    all_copied c.args.count c.args.packet.now c.args.list c.without_tunnel-list.result c.members.result
    (λ s test counted shown. c.members.ensures s test counted shown)
    (λ copies. copies.items) c.copies_on.result c.leaves.result c.leaves.ensures c.if-not-leaves.false
    c.without_tunnel-list.ensures.interfaces c.copies_on.ensures

pub returns-clause-limit : goal.returns-clause-limit
returns-clause-limit c =
    copies_few c.args.count c.args.packet.now c.args.list c.without_tunnel-list.result c.members.result
    (λ s test counted shown. c.members.ensures s test counted shown)
    (λ copies. copies.items) c.copies_on.result
    (λ q. c.without_tunnel-list.ensures.limit q
    ∙ ap (λ b. nat_lt q 120 && b) (sym (c.without_tunnel-list.ensures.interfaces q)))
    c.requires c.copies_on.ensures
