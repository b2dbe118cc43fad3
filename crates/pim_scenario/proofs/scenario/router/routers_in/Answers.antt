-- Each table in turn is read.
use Rattle.std.{proofs.{Common.{arith, rules, ◌≡◌, None, sym, ap, ◌∙◌, ◌+◌, ℕ, [], ◌∷◌, List, length, length-append, true, map, subst}, lemmas.{Slice.Zip.AllZip-long, List.length-map}}, specs.{List.All, Option.is_some, Prelude.string_bytes}}
use Rattle.toml.{specs.View.{view, table_view}}
use Rattle.pim_scenario.{specs.Scenario.{AreRouters, HasNumbered, IsTable, IsRouter, place_of}, proofs.{LinkLemmas.{grows_by_names, router_added, routers_more}, NameLemmas.{names_more, twice}, ReadLemmas.{more_read, all_read, one_read, wrong, fails, no_table, table_said}}}
use Rattle.pim_scenario.proofs.scenario.router.routers_in.Goals as goal

pub loop-value-preserved : goal.loop-value-preserved
loop-value-preserved c =
    let new : place_of c.loop-value.routers (string_bytes c.in_ok-router.router.name) ≡ None = search rules in
    record {
      read = more_read (IsTable IsRouter) c.args.values.now _ _ _ c.value-item.result _ (omega arith) c.value-item.is
          c.in_ok-push.ensures.ok c.loop-value.invariant.read (_, sym c.in_ok-table_of.ensures, c.in_ok-router.ensures.router);
      count = rw c.in_ok-push.ensures.ok
          (length-append c.loop-value.routers (c.in_ok-router.router ∷ []) ∙ ap (λ (k : ℕ). k + 1) c.loop-value.invariant.count);
      named = names_more _ _ _ c.in_ok-push.ensures.ok new c.loop-value.invariant.named;
      names = router_added _ _ _ _ _ c.loop-value.invariant.names c.in_ok-router.ensures.names c.in_ok-push.ensures.ok;
      numbered = routers_more _ _ _ _ _ (grows_by_names _ _ c.in_ok-router.router.links c.in_ok-router.ensures.names) c.in_ok-push.ensures.ok
          c.loop-value.invariant.numbered c.in_ok-router.ensures.numbered;
    }

pub returns : goal.returns
returns c = record {
  tables = all_read (IsTable IsRouter) c.args.values.now c.loop-value.value-index _ (omega arith) c.loop-value.invariant.read;
  count = omega (arith, c.loop-value.invariant.count);
  names = c.loop-value.invariant.named;
  links = subst (λ (ns : List (List ℕ)). All (HasNumbered ns) c.loop-value.routers) c.loop-value.invariant.names
      c.loop-value.invariant.numbered;
}

pub returns-then-values-gt-ROUTER_LIMIT : goal.returns-then-values-gt-ROUTER_LIMIT
returns-then-values-gt-ROUTER_LIMIT c rs is =
    let long : length rs ≡ length c.args.values.now =
    AllZip-long (IsTable IsRouter) (map view c.args.values.now) rs is.tables ∙ length-map c.args.values.now view in
    omega (arith, is.count, long)

pub returns-in_err-table_of : goal.returns-in_err-table_of
returns-in_err-table_of c =
    wrong (AreRouters (map view c.args.values.now)) _ c.from_residual.ensures.1
    (λ rs is.
    let one = one_read (IsTable IsRouter) c.args.values.now c.loop-value.value-index c.value-item.result rs (omega arith)
    c.value-item.is is.tables in
    no_table IsRouter _ c.in_err-table_of.ensures one.0 one.1)

pub returns-in_err-router : goal.returns-in_err-router
returns-in_err-router c =
    fails (AreRouters (map view c.args.values.now)) (IsRouter (table_view c.in_ok-table_of.field-0.now)) _ _
    c.from_residual-in_err-router.ensures.1
    (λ rs is.
    let one = one_read (IsTable IsRouter) c.args.values.now c.loop-value.value-index c.value-item.result rs (omega arith)
    c.value-item.is is.tables in
    table_said IsRouter _ _ c.in_ok-table_of.ensures one.0 one.1)
    c.in_err-router.ensures.router

pub returns-then-is_some : goal.returns-then-is_some
returns-then-is_some c rs is =
    let there : is_some (place_of c.loop-value.routers (string_bytes c.in_ok-router.router.name)) ≡ true = search rules in
    twice c.args.values.now c.loop-value.routers rs c.loop-value.value-index c.value-item.result c.in_ok-router.router
    (omega arith) c.value-item.is c.loop-value.invariant.count c.loop-value.invariant.read
    (_, sym c.in_ok-table_of.ensures, c.in_ok-router.ensures.router) there is
