use Rattle.std.{proofs.Common.{ap, filter, subst, sym, ◌∙◌}}
use Rattle.pim_ip.{specs.declared.addr.Addr.Addr}
use Rattle.pim_types.{specs.Keys.{addr_cmp, key_cmp, star_key}}
use Rattle.pim_model.{specs.Tables.keys_in}
use Rattle.pim_tables.{specs.RowsOf.{RiseFrom, is_of}, proofs.Walks.{all_of_them, begun, begun_at}}
use Rattle.pim_tables.proofs.rows_of.RowsOf.among.Goals as goal

pub invariant_of-result : goal.invariant_of-result
unfolding key_cmp addr_cmp keys_in
invariant_of-result g c =
    let walked =
    begun_at c.args.iface.number c.args.group c.star-first.result c.args.rows.now.entries c.range.result
    (c.star-first.ensures ∙ ap (λ (a : Addr). star_key c.args.iface.number a.bits) c.unwrap_or.ensures)
    (c.range.ensures.between tt) in
    subst (RiseFrom c.args.iface.number c.args.group) (sym walked)
    (begun c.args.iface.number c.args.group c.args.rows.now.entries c.range.ensures.ordered)

pub returns : goal.returns
unfolding key_cmp addr_cmp
returns g c =
    let walked =
    begun_at c.args.iface.number c.args.group c.star-first.result c.args.rows.now.entries c.range.result
    (c.star-first.ensures ∙ ap (λ (a : Addr). star_key c.args.iface.number a.bits) c.unwrap_or.ensures)
    (c.range.ensures.between tt) in
    ap (filter (λ e. is_of c.args.iface.number c.args.group e.0)) walked
    ∙ all_of_them c.args.iface.number c.args.group c.args.rows.now.entries
