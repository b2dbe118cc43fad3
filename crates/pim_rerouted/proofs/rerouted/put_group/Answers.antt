use Rattle.std.{proofs.Common.{List, OnOk, ap, subst, ◌≡◌, ◌++◌, ◌∷◌, [], ◌∙◌}}
use Rattle.pim_types.{specs.declared.fact.Key.Key}
use Rattle.pim_rerouted.{proofs.OtherRoutes.{all_moved, some_moved}}
use Rattle.pim_rerouted.proofs.rerouted.put_group.Goals as goal

pub returns-then-is_rp_moved : goal.returns-then-is_rp_moved
returns-then-is_rp_moved c =
    c.in_ok-push.ensures.items
    ∙ ap (λ (k : Key). c.args.keys.now.items ++ k ∷ []) c.group.ensures
    ∙ ap (λ (ks : List Key). c.args.keys.now.items ++ ks)
    (all_moved c.args.world.now c.args.next.now.table.now.routes c.args.group.bits c.is_rp_moved.result
    c.is_rp_moved.ensures c.if-is_rp_moved.true)

pub returns : goal.returns
returns c =
    subst (λ (ks : List Key). OnOk c.put_sources.result (c.put_sources.new.keys.items ≡ c.args.keys.now.items ++ ks))
    (some_moved c.args.world.now c.args.next.now.table.now.routes c.args.group.bits c.is_rp_moved.result
    c.is_rp_moved.ensures c.if-is_rp_moved.false _ c.in_ok-sources.ensures) c.put_sources.ensures
