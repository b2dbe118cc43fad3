use Rattle.std.{proofs.{Common.{ap, refl, ◌∙◌}, lemmas.List.take_all}}
use Rattle.pim_types.{specs.Keys.{addr_cmp, key_cmp}}
use Rattle.pim_model.{specs.Downstream.is_named}
use Rattle.pim_downstream.{proofs.NamedSets.next_named}
use Rattle.pim_downstream.proofs.indexed.set_of.Goals as goal

pub loop-key-init : goal.loop-key-init
loop-key-init c = λ q. ap (λ keys. is_named keys q) c.new-set.ensures.empty

pub loop-key-preserved : goal.loop-key-preserved
unfolding key_cmp addr_cmp is_named
loop-key-preserved c =
    next_named c.args.keys.now c.loop-key.set.keys c.insert.new.self.keys c.loop-key.key-index _ _ c.loop-key-test.true
    refl c.in_ok-insert.ensures.updates.0 c.loop-key.invariant

pub returns : goal.returns
returns c = λ q.
    c.loop-key.invariant q
    ∙ ap (λ keys. is_named keys q) (take_all c.loop-key.key-index c.args.keys.now c.loop-key-test.false)
