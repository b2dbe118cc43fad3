use Rattle.std.{proofs.Common.{List, OnOk, ap, subst, ◌≡◌, ◌++◌, ◌∷◌, [], ◌∙◌}}
use Rattle.pim_types.{specs.declared.fact.Key.Key}
use Rattle.pim_hello.{proofs.Led.{all_led, some_led}}
use Rattle.pim_hello.proofs.towards.put_group.Goals as goal

pub returns-then-is_group_led : goal.returns-then-is_group_led
returns-then-is_group_led c =
    let n = c.args.neighbour in
    c.in_ok-push.ensures.items
    ∙ ap (λ (k : Key). c.args.keys.now.items ++ k ∷ []) c.group.ensures
    ∙ ap (λ (ks : List Key). c.args.keys.now.items ++ ks)
    (all_led c.args.world.now n.iface.number n.address.bits c.args.group.bits c.is_group_led.result
    c.is_group_led.ensures c.if-is_group_led.true)

pub returns : goal.returns
returns c =
    let n = c.args.neighbour in
    subst (λ (ks : List Key). OnOk c.put_sources.result (c.put_sources.new.keys.items ≡ c.args.keys.now.items ++ ks))
    (some_led c.args.world.now n.iface.number n.address.bits c.args.group.bits c.is_group_led.result
    c.is_group_led.ensures c.if-is_group_led.false _ c.in_ok-sources.ensures) c.put_sources.ensures
