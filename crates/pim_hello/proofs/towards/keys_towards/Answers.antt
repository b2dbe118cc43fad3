use Rattle.std.{proofs.Common.{List, ap, ◌++◌, ◌∙◌}}
use Rattle.pim_types.{specs.declared.fact.Key.Key}
use Rattle.law_events.{specs.Adjacent.{keys_towards, led_keys}}
use Rattle.pim_hello.proofs.towards.keys_towards.Goals as goal

pub returns : goal.returns
unfolding keys_towards
returns c =
    let s = c.args.world.now in
    let i = c.args.neighbour.iface.number in
    let address = c.args.neighbour.address.bits in
    c.in_ok-extend_from_slice.ensures.items
    ∙ ap (λ (ks : List Key). ks ++ c.deref.result.now) c.in_ok-keys.ensures
    ∙ ap (λ (ks : List Key). led_keys s i address ++ ks) (c.deref.ensures.value ∙ c.in_ok-lost.ensures)
