use Rattle.std.{proofs.{Common.{List, ap, arith, filter, map, refl, ◌++◌, ◌∙◌, ℕ, length}, lemmas.Grind.common_steps}}
use Rattle.pim_model.{specs.Tables.below}
use Rattle.law_states.{specs.Placing.{index_of, is_new, new_order, to_order}}
use Rattle.pim_worlds.{proofs.Gathered.{few_kept, few_old}}
use Rattle.pim_worlds.proofs.orders.Orders.of.Goals as goal

pub indices-requires : goal.indices-requires
indices-requires c = few_old c.args.places.now _ _ c.as_slice.ensures.value c.in_ok-old.ensures c.requires

pub overflow_cast-kept : goal.overflow_cast-kept
overflow_cast-kept c =
    let le = few_kept c.args.places.now c.as_slice-stay.result.now (length c.as_slice-stay.result.now) refl
    (c.as_slice-stay.ensures.value ∙ c.in_ok-kept.ensures) c.requires in
    grind (arith, common_steps, le)

pub returns : goal.returns
unfolding new_order to_order
returns c = record {
  old = c.in_ok-old.ensures;
  to = c.in_ok-to.ensures
      ∙ ap (λ (ns : List ℕ). map (index_of ns) (below (length c.args.places.now))) (c.as_slice.ensures.value ∙ c.in_ok-old.ensures);
  new = c.in_ok-new.ensures
      ∙ ap (λ (ns : List ℕ). ns ++ filter (is_new ns) (below c.args.new)) (c.as_slice-stay.ensures.value ∙ c.in_ok-kept.ensures);
  kept = ap length (c.as_slice-stay.ensures.value ∙ c.in_ok-kept.ensures);
}
