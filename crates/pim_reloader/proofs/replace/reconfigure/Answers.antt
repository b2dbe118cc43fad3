use Rattle.std.{proofs.Common.{◌≡◌, ◌∙◌}}
use Rattle.pim_model.{specs.State.State}
use Rattle.law_states.{specs.Reloading.asserts_under}
use Rattle.pim_reloader.{proofs.Changing.{forgotten, forgotten_is, given_is, under_is}}
use Rattle.pim_reloader.proofs.replace.reconfigure.Goals as goal

pub returns-clause-state : goal.returns-clause-state
returns-clause-state c =
    let s : State = c.args.world.now in
    let goes : c.forget_asserts.new.world ≡ forgotten s (asserts_under s c.args.next.configured) =
    forgotten_is s c.args.next c.forget_asserts.new.world _ c.forget_asserts.ensures
    (c.deref.ensures.value ∙ c.in_ok-won.ensures) c.proof_keyed.ensures.asserts_rise in
    under_is s c.args.next c.forget_asserts.new.world c.reconfigure-ranges.new.self c.put_all_under.new.world
    c.rps_replaced.new.world c.give_candidates.new.table.ranges goes c.reconfigure-ranges.ensures.new
    c.in_ok-put_all_under.ensures
    (given_is s c.args.next c.forget_asserts.new.world c.reconfigure-ranges.new.self c.reconfigure-ranges.result
    c.give_candidates.new.table goes c.reconfigure-ranges.ensures.new c.reconfigure-ranges.ensures.back
    c.in_ok-give_candidates.ensures)
    c.in_ok-rps_replaced.ensures.state
