use Rattle.std.{proofs.Common.{sym, ◌∙◌}}
use Rattle.pim_querier.{proofs.Parts.{all_put, is_none, is_some, one_more_put}}
use Rattle.pim_querier.proofs.queries.put_queries.Goals as goal

pub loop-left-preserved : goal.loop-left-preserved
loop-left-preserved c =
    one_more_put c.args.iface.number c.args.header.now _ c.loop-left.out c.query.new.self c.min.result
    c.loop-left.left.now c.split_at.result.0.now c.split_at.result.1.now c.min.ensures c.split_at.ensures.front
    c.split_at.ensures.back (is_some c.loop-left.left.now (sym c.is_empty.ensures ∙ c.loop-left-test.true))
    c.in_ok-query.ensures.ok c.loop-left.invariant

pub returns : goal.returns
returns c =
    all_put c.args.iface.number c.args.header.now _ c.loop-left.out c.loop-left.left.now
    (is_none c.loop-left.left.now (sym c.is_empty.ensures ∙ c.loop-left-test.false)) c.loop-left.invariant
