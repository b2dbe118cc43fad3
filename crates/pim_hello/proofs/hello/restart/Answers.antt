use Rattle.std.{proofs.Common.{◌≡◌, ℕ, ◌+◌, Some, ap, filter, not, ◌&&◌, ◌∙◌}}
use Rattle.pim_model.{specs.{Downstream.{asserts_after_joins, is_named}, Hellos.{neighbour_replaced, neighbour_restarted}, Sets.is_loser, State.State}}
use Rattle.pim_store.{specs.PimTables.PimTables}
use Rattle.pim_state.{proofs.Lent.stored, specs.Turns.Taking}
use Rattle.pim_hello.{proofs.StartedAnew.{replaced, restarted}}
use Rattle.pim_hello.proofs.hello.restart.Goals as goal

pub returns-clause-state : goal.returns-clause-state
unfolding asserts_after_joins
returns-clause-state c =
    let s = c.args.world.now in
    let w = c.turn.inside.draw in
    let is : c.replace_neighbour.new.self ≡ replaced s c.args.iface.number c.args.from.bits w c.args.hello.now =
    c.in_ok-replace_neighbour.ensures
    ∙ ap (λ (x : State). neighbour_replaced x c.args.iface.number c.args.from.bits c.args.hello.now)
    c.in_ok-trigger.ensures in
    c.in_ok-lower_timers.ensures
    ∙ restarted s c.args.iface.number c.args.from.bits w c.args.hello.now c.replace_neighbour.new.self
    _ (c.present.result + c.override_delay.result) c.deref-2.result.now c.deref.result.now is
    c.proof_keyed.ensures.asserts_rise (c.deref.ensures.value ∙ c.in_ok-lost.ensures)
    (stored c.replace_neighbour.new.self _ _ (λ (f : PimTables). record f {
      asserts = filter (λ e. not (is_loser (Some e.1) && is_named c.deref.result.now e.0)) f.asserts;
    }) c.store_mut.ensures.value c.end_losses.ensures)
    (ap (λ n. n + c.override_delay.result) c.present.ensures.present
    ∙ ap (λ (n : ℕ). c.replace_neighbour.new.self.present + n) c.override_delay.ensures.delay)
    (c.deref-2.ensures.value ∙ c.in_ok-towards.ensures)
    ∙ ap (λ (d : ℕ). neighbour_restarted s c.args.iface.number c.args.from.bits d
    (replaced s c.args.iface.number c.args.from.bits d c.args.hello.now))
    (ap (λ (t : Taking). t.draw) c.turn.view_is)
