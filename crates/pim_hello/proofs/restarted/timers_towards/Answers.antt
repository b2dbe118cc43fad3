use Rattle.std.{proofs.{Common.{List, ap, filter, sym, ◌∙◌}, lemmas.List.take_all}}
use Rattle.pim_types.{specs.declared.fact.Key.Key}
use Rattle.law_settled.{proofs.ChosenRows.keys_of_passing}
use Rattle.pim_hello.{specs.Towards.is_towards}
use Rattle.pim_hello.proofs.restarted.timers_towards.Goals as goal

pub returns : goal.returns
returns c =
    let test = is_towards c.args.world.now c.args.neighbour in
    c.loop-key.invariant
    ∙ ap (λ (ks : List Key). filter test ks)
    (take_all c.loop-key.key-index c.as_slice-key-items.result.now c.loop-key-test.false ∙ c.as_slice-key-items.ensures.value
    ∙ c.in_ok-timers.ensures)
    ∙ sym (keys_of_passing test c.args.world.now.join_timers)
