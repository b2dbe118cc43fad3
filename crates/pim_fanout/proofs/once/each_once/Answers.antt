use Rattle.std.{proofs.{Common.{rules, subst, sym}, lemmas.{Fn.dedup_same, List.Sorted.answers_always}}, specs.List.Sorted.IsStrictlySortedBy}
use Rattle.pim_types.{specs.Keys.{addr_cmp, key_cmp}}
use Rattle.pim_fanout.{specs.{Before.name_key, Named.keys_of}, proofs.EachOnce.{same_name, same_once, sorted_once}}
use Rattle.pim_fanout.proofs.once.each_once.Goals as goal

pub returns-clause-same : goal.returns-clause-same
returns-clause-same c = λ passes.
    same_once passes c.args.names.now.items c.sort_unstable_by_key.new.self.items c.dedup_by.new.self.items
    c.sort_unstable_by_key.ensures.permutation
    (dedup_same _ same_name _ (λ x y b f' x' y' k. search rules) _ _ c.dedup_by.ensures.filtered)

pub returns-clause-once : goal.returns-clause-once
unfolding key_cmp addr_cmp
returns-clause-once c =
    let left = dedup_same _ same_name _ (λ x y b f' x' y' k. search rules) _ _ c.dedup_by.ensures.filtered in
    subst (λ ns. IsStrictlySortedBy key_cmp (keys_of ns)) (sym left)
    (sorted_once c.sort_unstable_by_key.new.self.items (c.sort_unstable_by_key.ensures.sorted name_key
    (answers_always _ _ _ (λ f a r next called. search rules))))
