use Rattle.std.{proofs.Common.{OnOk, subst, ◌≡◌, ◌∙◌}}
use Rattle.pim_model.{specs.State.State}
use Rattle.pim_reloader.{proofs.Asked.{all_under, keys_are}}
use Rattle.pim_reloader.proofs.queriers.put_all_under.Goals as goal

pub put_each_under-requires : goal.put_each_under-requires
put_each_under-requires c =
    keys_are c.args.world.now _ _ c.membership.ensures c.proof_kinds.ensures (c.deref.ensures.value ∙ c.in_ok-keys.ensures)

pub returns : goal.returns
returns c =
    subst (λ (s : State). OnOk c.put_each_under.result (c.put_each_under.new.world ≡ s))
    (all_under c.args.world.now c.deref.result.now (c.deref.ensures.value ∙ c.in_ok-keys.ensures)) c.put_each_under.ensures
