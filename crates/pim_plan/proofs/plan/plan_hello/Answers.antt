use Rattle.std.{proofs.Common.{List, [], ap, refl, sym, ◌∙◌}}
use Rattle.pim_types.{specs.declared.fact.{Key.Key, NeighbourRow.NeighbourRow}}
use Rattle.pim_model.{specs.{Full.is_full, Tables.Table}}
use Rattle.pim_neighbours.{specs.Refreshed.is_refreshed}
use Rattle.law_events.{specs.Adjacent.keys_of_hello}
use Rattle.pim_rerouted.{specs.Few.few_or_all}
use Rattle.pim_plan.{specs.{Planning.touched_of, declared.act.{Act.Act, Control.Control}}, proofs.{Plans.{adjoins_fit, else_where}, Touching.hello_moves}}
use Rattle.pim_state.{specs.declared.touched.Touched.Touched}
use Rattle.pim_plan.proofs.plan.plan_hello.Goals as goal

pub returns-then-is_refreshed : goal.returns-then-is_refreshed
returns-then-is_refreshed c = record {
  event = refl;
  refreshes = sym (c.is_refreshed.ensures
      ∙ ap (λ (t : Table NeighbourRow). is_refreshed t c.args.iface.number c.args.from.bits c.args.hello)
      c.neighbours.ensures)
      ∙ c.if-is_refreshed.true;
}

pub returns-then-is_full : goal.returns-then-is_full
unfolding is_full
returns-then-is_full c = sym c.is_full.ensures ∙ c.if-is_full.true

pub returns : goal.returns
unfolding is_full touched_of
returns c =
    let tested = c.is_refreshed.ensures
    ∙ ap (λ (t : Table NeighbourRow). is_refreshed t c.args.iface.number c.args.from.bits c.args.hello)
    c.neighbours.ensures in
    let s = c.args.world.now in
    let keys = keys_of_hello s c.args.iface.number c.args.from.bits c.args.hello in
    adjoins_fit s (Act.Control (Control.Hello c.args.iface c.args.from c.args.hello)) keys c.few_or_all-touched.result tt
    (c.few_or_all-touched.ensures ∙ ap (λ (ks : List Key). few_or_all ks) c.in_ok-keys_of_hello.ensures)
    (else_where _ (Touched.Keys []) (few_or_all keys) (sym tested ∙ c.if-is_refreshed.false))
    (sym c.is_full.ensures ∙ c.if-is_full.false)
    (hello_moves s c.args.iface c.args.from c.args.hello c.proof_keyed.ensures)
