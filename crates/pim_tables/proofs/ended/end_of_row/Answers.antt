use Rattle.std.{proofs.Common.{Bool, None, cond, ap, sym, ◌∙◌}}
use Rattle.pim_tables.{specs.Ends.is_second, proofs.Steps.{by_answers, kinds_tie}}
use Rattle.pim_tables.proofs.ended.end_of_row.Goals as goal

pub returns-then-eq : goal.returns-then-eq
returns-then-eq g c =
    let es = c.ends-ends.result in
    let ks = c.kinds-kinds.result in
    ap (λ (b : Bool). cond b es.0 (cond (is_second ks.1 c.args.kind) es.1 None))
    (sym c.if-eq.true ∙ c.eq.ensures ∙ kinds_tie c.args.kind ks.0)
    ∙ by_answers g.R.Ends.kinds g.R.Ends.ends c.args.row c.args.kind ks es c.kinds-kinds.ensures c.ends-ends.ensures

pub returns-then-is_kind : goal.returns-then-is_kind
returns-then-is_kind g c =
    let es = c.ends-ends.result in
    let ks = c.kinds-kinds.result in
    ap (λ (b : Bool). cond b es.1 None) (sym c.if-is_kind.true ∙ c.is_kind.ensures)
    ∙ ap (λ (b : Bool). cond b es.0 (cond (is_second ks.1 c.args.kind) es.1 None))
    (sym c.if-eq.false ∙ c.eq.ensures ∙ kinds_tie c.args.kind ks.0)
    ∙ by_answers g.R.Ends.kinds g.R.Ends.ends c.args.row c.args.kind ks es c.kinds-kinds.ensures c.ends-ends.ensures

pub returns : goal.returns
returns g c =
    let es = c.ends-ends.result in
    let ks = c.kinds-kinds.result in
    ap (λ (b : Bool). cond b es.1 None) (sym c.if-is_kind.false ∙ c.is_kind.ensures)
    ∙ ap (λ (b : Bool). cond b es.0 (cond (is_second ks.1 c.args.kind) es.1 None))
    (sym c.if-eq.false ∙ c.eq.ensures ∙ kinds_tie c.args.kind ks.0)
    ∙ by_answers g.R.Ends.kinds g.R.Ends.ends c.args.row c.args.kind ks es c.kinds-kinds.ensures c.ends-ends.ensures
