use Rattle.std.{proofs.Common.{◌++◌, append-nil, sym, ap, ◌∙◌}}
use Rattle.pim_types.{specs.Keys.addr_cmp}
use Rattle.pim_model.{specs.Tables.keys_in}
use Rattle.pim_tables.{proofs.GroupKeys.{keys_among, rpt_keys_of}}
use Rattle.pim_tables.proofs.facts.Facts.push_rpt_keys.Goals as goal

pub returns : goal.returns
unfolding addr_cmp
returns g c =
    let l = c.loop-group in
    let keys = keys_in c.args.self.now in
    sym (append-nil l.keys.items)
    ∙ ap (λ gs. l.keys.items ++ rpt_keys_of c.args.iface.number keys gs) (sym c.in-None.ensures.steps.0)
    ∙ l.invariant
    ∙ ap (λ ks. c.args.keys.now.items ++ ks)
    (keys_among c.args.iface.number keys c.proof_rising.ensures c.args.groups.now.keys c.len.ensures.ordered)
