use Rattle.std.{proofs.Common.{◌≡◌, List, Ok, Err, OnOk, Result, ap, subst, sym, ◌∙◌}}
use Rattle.pim_ip.{specs.declared.fault.Fault.Fault}
use Rattle.pim_model.{specs.{Messages.Message, State.{Addressing, InterfaceTable, State, interfaces_of}, Writing.{all_written, write_all}}}
use Rattle.pim_state.{specs.{contracts.world.World.the_view, Shown.{Shows, is_dr_on}}, proofs.Written.keeps_configured}
use Rattle.pim_state.proofs.world.World.write.Goals as goal

abbrev with_interfaces : State → InterfaceTable → State
with_interfaces s t = record s { configured = t.configured; interfaces = t.rows }

leaves : (r : Result (Unit {0}) Fault) (t : InterfaceTable) (s : State) (ms : List Message)
    → OnOk r (t ≡ (all_written (interfaces_of s) ms).0) → OnOk r (with_interfaces s t ≡ (write_all s ms).0)
unfolding write_all
leaves (Ok done) t s ms e =
    let rows = (all_written (interfaces_of s) ms).0.rows in
    ap (with_interfaces s) e
    ∙ ap (λ (cs : Addressing). let u : State = record s { configured = cs; interfaces = rows } in u)
    (keeps_configured (interfaces_of s) ms)
leaves (Err fault) t s ms e = tt

pub returns-clause-state : goal.returns-clause-state
returns-clause-state c =
    rw (← c.self.view_is)
    (leaves c.write.result c.write.new.interfaces (the_view c.self.inside) c.args.out.now c.write.ensures.paid)

pub invariant_of-self : goal.invariant_of-self
invariant_of-self c =
    let w = c.self.inside in (
      c.self.invariant.0,
      c.self.invariant.1,
      c.self.invariant.2,
      subst (λ (cs : Addressing). Shows w.dr (is_dr_on cs w.neighbours)) (sym c.write.ensures.configured) c.self.invariant.3,
      c.self.invariant.4,
      tt,
    )
