use Rattle.std.{proofs.{Common.{List, ap, length, rules, ◌∙◌}, lemmas.List.Sorted.IsNonDecreasingBy-from_sort_by_key}}
use Rattle.pim_ifaces.{specs.declared.configured.Own.Own, proofs.Around.still_in_order}
use Rattle.pim_ifaces.proofs.configured.in_order.Goals as goal

pub returns-clause-order : goal.returns-clause-order
returns-clause-order c =
    still_in_order c.args.owns.items c.sort_unstable_by_key.new.self
    (c.sort_unstable_by_key.ensures.len ∙ ap (λ (os : List Own). length os) c.as_mut_slice.ensures.value)
    (IsNonDecreasingBy-from_sort_by_key (λ (o : Own). o.address) _ c.sort_unstable_by_key.ensures.sorted
    (λ a r f k. search rules))
