use Rattle.std.{proofs.{Common.{List, get_or, subst}, lemmas.List.drop_more}}
use Rattle.pim_views.{specs.declared.opening.SourceOpening.SourceOpening}
use Rattle.pim_asserts.{specs.Passes.source_pass, proofs.Progress.{Gone, all_gone, goes_on, no_source}}
use Rattle.pim_asserts.proofs.clearing.clear_sources_in_pass.Goals as goal

pub loop-source-preserved : goal.loop-source-preserved
loop-source-preserved c =
    let i = c.loop-source.source-index in
    let xs = c.as_slice-source-items.result.now in
    goes_on (source_pass c.args.pass c.args.opened.now.group.bits) xs _ _ _ _ _ _ i
    (get_or xs i no_source) (drop_more xs i no_source c.loop-source-test.true) c.in_ok-clear_source_in_pass.ensures.state
    c.in_ok-clear_source_in_pass.ensures.messages c.loop-source.invariant

pub returns-clause-state : goal.returns-clause-state
returns-clause-state c =
    let step = source_pass c.args.pass c.args.opened.now.group.bits in
    (subst (λ (xs : List SourceOpening). Gone step xs c.args.world.now c.loop-source.world c.args.turn.now c.loop-source.turn) c.as_slice-source-items.ensures
    (all_gone step c.as_slice-source-items.result.now _ _ _ _ c.loop-source.source-index c.loop-source-test.false
    c.loop-source.invariant)).state

pub returns-clause-messages : goal.returns-clause-messages
returns-clause-messages c =
    let step = source_pass c.args.pass c.args.opened.now.group.bits in
    (subst (λ (xs : List SourceOpening). Gone step xs c.args.world.now c.loop-source.world c.args.turn.now c.loop-source.turn) c.as_slice-source-items.ensures
    (all_gone step c.as_slice-source-items.result.now _ _ _ _ c.loop-source.source-index c.loop-source-test.false
    c.loop-source.invariant)).messages
