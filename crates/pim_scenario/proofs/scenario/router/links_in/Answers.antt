-- Each table in turn is read, and its link is numbered.
use Rattle.std.{proofs.Common.{arith, sym, ap, ◌∙◌, ℕ, List, Some}}
use Rattle.pim_scenario.{specs.Scenario.{IsTable, IsLink}, proofs.{LinkLemmas.{grows_by_name, link_added, links_more}, ReadLemmas.{more_read, all_read, none_read, no_table, of_table, not_both}}}
use Rattle.pim_scenario.proofs.scenario.router.links_in.Goals as goal

pub loop-value-preserved : goal.loop-value-preserved
loop-value-preserved c = record {
  read = more_read (IsTable IsLink) c.args.values.now _ _ _ c.value-item.result _ (omega arith) c.value-item.is
      c.in_ok-push.ensures.ok c.loop-value.invariant.read
      (_, sym c.in_ok-table_of.ensures, sym c.in_ok-name.ensures ∙ ap (λ (t : List ℕ). Some t) (sym c.in_ok-link.ensures.named));
  names = link_added _ _ _ _ _ _ _ c.loop-value.invariant.names c.in_ok-link.ensures.names
      c.in_ok-link.ensures.named c.in_ok-push.ensures.ok;
  numbered = links_more _ _ _ _ _ (grows_by_name _ _ _ c.in_ok-link.ensures.names) c.in_ok-push.ensures.ok
      c.loop-value.invariant.numbered c.in_ok-link.ensures.numbered;
}

pub returns-clause-links : goal.returns-clause-links
returns-clause-links c =
    all_read (IsTable IsLink) c.args.values.now c.loop-value.value-index _ (omega arith) c.loop-value.invariant.read

pub returns-in_err-table_of-clause-links : goal.returns-in_err-table_of-clause-links
returns-in_err-table_of-clause-links c =
    none_read (IsTable IsLink) c.args.values.now c.loop-value.value-index c.value-item.result _ (omega arith) c.value-item.is
    (no_table IsLink _ c.in_err-table_of.ensures) c.from_residual.ensures.1

pub returns-in_err-name-clause-links : goal.returns-in_err-name-clause-links
returns-in_err-name-clause-links c =
    none_read (IsTable IsLink) c.args.values.now c.loop-value.value-index c.value-item.result _ (omega arith) c.value-item.is
    (λ l is. not_both _ _ c.in_err-name.ensures (of_table IsLink _ _ c.in_ok-table_of.ensures l is))
    c.from_residual-in_err-name.ensures.1
